use Rattle.std.proofs.Common.{◌≡◌, ℕ, [], ◌∷◌, ◌++◌, drop, length, min, false, rules, arith, ap, ◌∙◌}
use Rattle.std.proofs.lemmas.Grind.{common_steps}
use Rattle.tp_outside.specs.declared.changes.Call.TheVariants.{Resize}
use Rattle.tp_outside.proofs.Records.{resizes}
use Rattle.tp_outside.proofs.changes.set_len.Goals as goal

pub returns-clause-ok : goal.returns-clause-ok
returns-clause-ok c =
    let old = c.args.bytes.now.items in
    let list = c.args.changes.now.items.items in
    let from : c.min.result ≡ min c.args.len (length old) = search rules in
    let lost : c.add.new.self.lost.items ≡ c.args.changes.now.lost.items ++ drop (min c.args.len (length old)) old = grind (arith, common_steps, from, c.deref.ensures.value) in
    let was : c.len-was.result ≡ length old = omega (arith, c.len-was.ensures, c.args.bytes.now.ok.0) in
    let items : c.add.new.self.items.items ≡ list ++ record { call = Resize c.args.len (length old); synced = false } ∷ [] =
    c.add.ensures.items ∙ ap (λ l. l ++ record { call = Resize c.args.len c.len-was.result; synced = false } ∷ []) (ap (λ v. v.items) c.keep.ensures.items ∙ c.make_room.ensures.items)
    ∙ ap (λ (n : ℕ). list ++ record { call = Resize c.args.len n; synced = false } ∷ []) was in
    resizes old _ _ _ c.args.len _ _ lost items (c.in_default.ensures {u = tt}).ok
