use Rattle.tp_agreement.proofs.RollsUp.{rolls_up}
use Rattle.tp_agreement.proofs.a_ready_branch_rolls_with_its_superior.Goals as goal

pub returns : goal.returns
returns c = rolls_up
