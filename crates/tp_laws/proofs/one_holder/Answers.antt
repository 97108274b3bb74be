use Rattle.tp_control.proofs.EndsRounds.{control_is_one}
use Rattle.tp_laws.proofs.one_holder.Goals as goal

pub returns : goal.returns
returns c = control_is_one
