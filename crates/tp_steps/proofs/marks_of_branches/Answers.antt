use Rattle.tp_steps.proofs.branches.Rowed.{rowed_turn}
use Rattle.tp_steps.proofs.branches.Branched.{branched_event}
use Rattle.tp_steps.proofs.marks_of_branches.Goals as goal

pub returns : goal.returns
returns c = record { turn = rowed_turn; node = branched_event }
