use Rattle.std.proofs.Common.{◌≡◌, ap, sym, ◌∙◌, refl, arith, cond, subst, None, Some}
use Rattle.tp_node_state.proofs.KeptTrees.{none_noted}
use Rattle.tp_node_state.specs.Kept.{ages_in, without_age}
use Rattle.tp_names.specs.Same.{is_aaid}
use Rattle.tp_node_state.proofs.ages.remove.Goals as goal

pub returns-in_default : goal.returns-in_default
returns-in_default c = λ t. ap (λ m. ages_in m.entries t) c.get_mut.follows.holds-at-none ∙ none_noted c.args.trees.now.entries c.args.aaid.now c.args.age c.in_default.ensures.value t
