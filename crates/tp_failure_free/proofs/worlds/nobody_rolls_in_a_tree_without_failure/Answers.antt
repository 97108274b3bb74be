use Rattle.tp_failure_free.proofs.NoRolling.{nobody_rolls}
use Rattle.tp_failure_free.proofs.worlds.nobody_rolls_in_a_tree_without_failure.Goals as goal

pub returns : goal.returns
returns c = nobody_rolls
