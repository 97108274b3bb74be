use Rattle.tp_finishing.proofs.WaitingLaw.{rollbacks_wait as proved}
use Rattle.tp_finishing.proofs.rollbacks_wait.Goals as goal

pub returns : goal.returns
returns c = proved
