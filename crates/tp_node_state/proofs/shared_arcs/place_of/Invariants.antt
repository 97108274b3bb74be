use Rattle.std.proofs.Common.{◌≡◌, ◌+◌, drop}
use Rattle.tp_tree.specs.Tie.{place_of}
use Rattle.tp_node_state.proofs.shared_arcs.place_of.Given as goal

-- none of those before is with the peer
abbrev pub invariant-loop-i : goal.invariant-loop-i
invariant-loop-i l = place_of l.ties l.peer ≡ l.i + place_of (drop l.i l.ties) l.peer
