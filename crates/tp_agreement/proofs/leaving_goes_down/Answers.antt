use Rattle.tp_agreement.proofs.RollsUp.{left_down}
use Rattle.tp_agreement.proofs.leaving_goes_down.Goals as goal

pub returns : goal.returns
returns c = left_down
