use Rattle.tp_runs.proofs.KnownKeys.{phase_agrees_law, key_agrees_law}
use Rattle.tp_history_state.proofs.whole.Quiet.{quiet_law}
use Rattle.tp_history_state.proofs.phases_are_known.Goals as goal

pub returns : goal.returns
returns c = record { phase = phase_agrees_law; key = key_agrees_law; every = quiet_law }
