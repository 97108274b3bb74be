use Rattle.std.proofs.Common.{◌≡◌, ap, sym, ◌∙◌, refl, arith, cond, subst, None, Some}
use Rattle.tp_node_state.proofs.KeptTrees.{all_below}
use Rattle.tp_node_state.proofs.kept_map.next_age.Goals as goal

pub returns-in-Some : goal.returns-in-Some
returns-in-Some c = all_below c.args.by_age.now.entries c.in-Some.last.now c.in-Some.ensures.all_up_to
