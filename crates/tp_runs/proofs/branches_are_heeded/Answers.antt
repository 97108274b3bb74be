use Rattle.tp_runs.proofs.Heeded.{heeds_run}
use Rattle.tp_runs.proofs.branches_are_heeded.Goals as goal

pub returns : goal.returns
returns c = heeds_run
