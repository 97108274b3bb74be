use Rattle.tp_history_state.proofs.control.Law.{control_law}
use Rattle.tp_history_state.proofs.control_is_known.Goals as goal

pub returns : goal.returns
returns c = record { control = control_law }
