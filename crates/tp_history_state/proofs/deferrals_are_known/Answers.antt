use Rattle.tp_history_state.proofs.deferral.Deferral.{deferral_law}
use Rattle.tp_history_state.proofs.deferrals_are_known.Goals as goal

pub returns : goal.returns
returns c = record { deferral = deferral_law }
