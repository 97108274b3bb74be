use Rattle.tp_failure_free.proofs.DrainedBranches.{branches_are_there}
use Rattle.tp_failure_free.proofs.worlds.branches_of_a_drained_tree_are_there.Goals as goal

pub returns : goal.returns
returns c = branches_are_there
