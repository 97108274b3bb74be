use Rattle.tp_histories.proofs.worlds.Unique.{unique_run}
use Rattle.tp_laws.proofs.trees_are_entered_once.Goals as goal

pub returns : goal.returns
returns c = unique_run
