use Rattle.std.proofs.Common.{◌≡◌, drop, map}
use Rattle.tp_tree.specs.Tie.{arc_of}
use Rattle.tp_node_state.specs.SharedArcs.{has_none_chained}
use Rattle.tp_node_state.proofs.arcs.are_unchained.Given as goal

-- those before are not
abbrev pub invariant-loop-tie : goal.invariant-loop-tie
invariant-loop-tie l = has_none_chained (map arc_of (drop l.tie-index l.ties)) ≡ has_none_chained (map arc_of l.ties)
