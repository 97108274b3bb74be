use Rattle.tp_runs.proofs.Family.{commits_up}
use Rattle.tp_runs.proofs.commits_go_up.Goals as goal

pub returns : goal.returns
returns c = commits_up
