use Rattle.tp_failure_free.proofs.DrainedTaken.{frames_drain, no_failure_in_tree}
use Rattle.tp_failure_free.proofs.worlds.frames_that_are_taken_drain_a_tree.Goals as goal

pub returns : goal.returns
returns c = record { drained = frames_drain; unfailed = no_failure_in_tree }
