use Rattle.tp_agreement.proofs.RollsUp.{ready_down}
use Rattle.tp_agreement.proofs.readiness_goes_down.Goals as goal

pub returns : goal.returns
returns c = ready_down
