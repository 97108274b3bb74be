use Rattle.tp_histories.proofs.trees.Fated.{fated_law}
use Rattle.tp_histories.proofs.fates_are_one.Goals as goal

pub returns : goal.returns
returns c = fated_law
