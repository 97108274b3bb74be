use Rattle.tp_finishing.proofs.Stops.{stops_quieten as proved}
use Rattle.tp_finishing.proofs.stops_quieten.Goals as goal

pub returns : goal.returns
returns c = proved
