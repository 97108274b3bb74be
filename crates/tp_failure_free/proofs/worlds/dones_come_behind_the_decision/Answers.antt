use Rattle.tp_failure_free.proofs.DrainedDones.{dones_run}
use Rattle.tp_failure_free.proofs.worlds.dones_come_behind_the_decision.Goals as goal

pub returns : goal.returns
returns c = dones_run
