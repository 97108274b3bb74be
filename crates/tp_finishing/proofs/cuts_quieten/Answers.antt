use Rattle.tp_finishing.proofs.Cutting.{cuts_quieten as proved}
use Rattle.tp_finishing.proofs.cuts_quieten.Goals as goal

pub returns : goal.returns
returns c = proved
