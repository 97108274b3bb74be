use Rattle.tp_steps.proofs.branches.Heeding.{heeding_event}
use Rattle.tp_steps.proofs.what_is_taken_is_heeded.Goals as goal

pub returns : goal.returns
returns c = heeding_event
