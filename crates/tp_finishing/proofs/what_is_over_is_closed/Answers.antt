use Rattle.tp_finishing.proofs.Closed.{over_is_closed as proved}
use Rattle.tp_finishing.proofs.what_is_over_is_closed.Goals as goal

pub returns : goal.returns
returns c = proved
