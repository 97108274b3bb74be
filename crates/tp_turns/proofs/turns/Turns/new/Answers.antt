use Rattle.std.proofs.Common.{◌≡◌, subst, sym, ap, ◌∙◌, List, [], ◌∷◌, ◌++◌}
use Rattle.atomic_table.specs.Table.{opening}
use Rattle.tp_turns.specs.Turns.{Kept, idle}
use Rattle.tp_turns.proofs.Keeping.{begins}
use Rattle.tp_turns.proofs.turns.Turns.new.Goals as goal

one_item : {A : Type 0} (xs ys : List A) (x : A) → ys ≡ xs ++ x ∷ [] → xs ≡ [] → ys ≡ x ∷ []
one_item xs ys x e none = e ∙ ap (λ l. l ++ x ∷ []) none

pub new-requires : goal.new-requires
new-requires g c =
    let list = g.T.Lists.list in
    let items = c.push.new.self.items in
    let one : items ≡ c.args.value ∷ [] = one_item c.new-slots.result.items items c.args.value c.in_default.ensures.items c.new-slots.ensures.items in
    subst (λ xs. Kept list (opening (0 ∷ []) xs (idle []))) (sym one) (begins list c.args.value c.requires)
