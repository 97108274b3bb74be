use Rattle.tp_finishing.proofs.Again.{lost_is_said_again as proved}
use Rattle.tp_laws.proofs.what_was_lost_is_said_again.Goals as goal

pub returns : goal.returns
returns c = proved
