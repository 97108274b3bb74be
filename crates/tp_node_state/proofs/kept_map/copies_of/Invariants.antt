use Rattle.std.proofs.Common.{◌≡◌, ◌++◌}
use Rattle.tp_node_state.specs.Changes.{changed_all}
use Rattle.tp_node_state.specs.Kept.{listed}
use Rattle.tp_node_state.proofs.KeptPlaces.{shown}
use Rattle.tp_node_state.proofs.kept_map.copies_of.Given as goal

abbrev pub invariant-loop-kept : goal.invariant-loop-kept
invariant-loop-kept l = l.copies.items ++ changed_all l.change (shown l.kept-iterator) ≡ changed_all l.change (listed l.by_age.entries)
