use Rattle.tp_steps.proofs.branches.Outspoken.{outspoken_event, left_is_said}
use Rattle.tp_steps.proofs.what_is_decided_is_said.Goals as goal

pub returns : goal.returns
returns c = record { says = outspoken_event; leaves = left_is_said }
