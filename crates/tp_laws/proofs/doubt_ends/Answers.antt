use Rattle.tp_finishing.proofs.Doubts.{doubt_ends as proved}
use Rattle.tp_laws.proofs.doubt_ends.Goals as goal

pub returns : goal.returns
returns c = proved
