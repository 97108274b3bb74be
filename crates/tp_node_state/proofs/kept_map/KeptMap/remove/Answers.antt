use Rattle.std.proofs.Common.{◌≡◌, ap, sym, ◌∙◌, refl, arith, cond, subst, None, Some}
use Rattle.tp_model.specs.Recovery.{without_kept}
use Rattle.tp_node_state.proofs.KeptAges.{removed_none}
use Rattle.tp_node_state.proofs.KeptTrees.{indexed_removed}
use Rattle.tp_node_state.proofs.kept_map.KeptMap.remove.Goals as goal

pub returns-in_default : goal.returns-in_default
returns-in_default c = sym c.self.view_is ∙ removed_none c.self.inside.by_age.entries c.args.key.now (sym c.in_default.ensures) ∙ ap (λ l. without_kept l c.args.key.now) c.self.view_is

pub invariant_of-self : goal.invariant_of-self
invariant_of-self c =
    (indexed_removed c.self.inside.by_age.entries c.remove.new.self.entries c.self.inside.trees.entries c.remove-2.new.trees.entries c.args.key.now c.in-Some.age c.self.invariant (sym c.in-Some.ensures) c.remove.ensures.entries c.remove.ensures.ordered c.remove-2.ensures).0

pub returns : goal.returns
returns c =
    (indexed_removed c.self.inside.by_age.entries c.remove.new.self.entries c.self.inside.trees.entries c.remove-2.new.trees.entries c.args.key.now c.in-Some.age c.self.invariant (sym c.in-Some.ensures) c.remove.ensures.entries c.remove.ensures.ordered c.remove-2.ensures).1
    ∙ ap (λ l. without_kept l c.args.key.now) c.self.view_is
