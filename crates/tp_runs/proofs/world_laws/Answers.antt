use Rattle.tp_histories.proofs.worlds.Good.{good_run}
use Rattle.tp_runs.proofs.world_laws.Goals as goal

pub returns : goal.returns
returns c = good_run
