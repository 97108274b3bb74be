use Rattle.tp_history_state.proofs.rests.Rests.{rests_law}
use Rattle.tp_history_state.proofs.arcs_are_known.Goals as goal

pub returns : goal.returns
returns c = record { rest = rests_law }
