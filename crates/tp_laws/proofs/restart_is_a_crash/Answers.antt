use Rattle.tp_histories.proofs.log.RestartLog.{restart_run}
use Rattle.tp_histories.proofs.log.WellLog.{restart_is_crash}
use Rattle.tp_laws.proofs.restart_is_a_crash.Goals as goal

pub returns : goal.returns
returns c = record { history = restart_is_crash; run = restart_run }
