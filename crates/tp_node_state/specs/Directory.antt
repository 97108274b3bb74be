-- Where the arcs of a node are looked for first: the peers of its subordinates in order, as far as they are known.
use Rattle.std.specs.Prelude.{ℕ, nat_eq, Some, None, List, [], length, position}
use Rattle.std.specs.Arc.{arc_value}
use Rattle.tp_node_state.specs.declared.directory.Directory.TheInside.{Inside}

abbrev pub peers_of : Inside → List ℕ
peers_of v = elim v.peers [ None ↦ [] | Some s ↦ (arc_value s).keys ]

-- the place of the peer, which is after the others where it is not among them
abbrev pub place_in : List ℕ → ℕ → ℕ
place_in ps p = elim (position (nat_eq p) ps) [ None ↦ length ps | Some i ↦ i ]
