-- The kept transactions of a node: those that are shared, and a change of one of them that waits.
use Rattle.std.specs.Prelude.{Option, Some, None, List, []}
use Rattle.std.specs.Arc.{arc_value}
use Rattle.std.specs.declared.sync.Arc.{Arc}
use Rattle.tp_model.specs.declared.recovery.Kept.{Kept}
use Rattle.tp_node_state.specs.declared.change.Change.{Change}
use Rattle.tp_node_state.specs.Changes.{changed}
use Rattle.tp_node_state.specs.declared.kept_table.KeptTable.TheInside.{Inside}

abbrev pub shared_list : {Z : Type 0} → Option (Arc (List Kept) Z) → List Kept
shared_list None = []
shared_list (Some a) = arc_value a

abbrev pub table_of : Inside → List Kept
table_of v = changed v.change (shared_list v.shared)
