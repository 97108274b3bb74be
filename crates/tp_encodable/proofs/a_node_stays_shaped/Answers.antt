use Rattle.tp_encodable.proofs.Kept.{start_stands, move_stands}
use Rattle.tp_encodable.proofs.a_node_stays_shaped.Goals as goal

pub returns-clause-start : goal.returns-clause-start
returns-clause-start c = start_stands

pub returns-clause-event : goal.returns-clause-event
returns-clause-event c = move_stands
