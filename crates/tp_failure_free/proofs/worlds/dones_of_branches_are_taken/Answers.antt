use Rattle.tp_failure_free.proofs.DrainedDones.{dones_are_taken}
use Rattle.tp_failure_free.proofs.worlds.dones_of_branches_are_taken.Goals as goal

pub returns : goal.returns
returns c = dones_are_taken
