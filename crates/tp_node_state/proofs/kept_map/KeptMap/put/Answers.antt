use Rattle.std.proofs.Common.{◌≡◌, ap, sym, ◌∙◌, Some}
use Rattle.tp_node_state.specs.Kept.{with_kept, age_of}
use Rattle.tp_node_state.proofs.KeptTrees.{indexed_put}
use Rattle.tp_node_state.proofs.kept_map.KeptMap.put.Goals as goal

pub invariant_of-self : goal.invariant_of-self
invariant_of-self c =
    (indexed_put c.self.inside.by_age.entries c.replace.new.by_age.entries c.self.inside.trees.entries c.args.kept c.in-Some.age c.self.invariant
    (ap (λ k. age_of c.self.inside.by_age.entries k.key) (sym c.deref.ensures) ∙ sym c.in-Some.ensures) c.replace.ensures.entries c.replace.ensures.ordered).0

pub returns-in-Some-clause-put : goal.returns-in-Some-clause-put
returns-in-Some-clause-put c =
    (indexed_put c.self.inside.by_age.entries c.replace.new.by_age.entries c.self.inside.trees.entries c.args.kept c.in-Some.age c.self.invariant
    (ap (λ k. age_of c.self.inside.by_age.entries k.key) (sym c.deref.ensures) ∙ sym c.in-Some.ensures) c.replace.ensures.entries c.replace.ensures.ordered).1
    ∙ ap (λ l. with_kept l c.args.kept.value) c.self.view_is
