use Rattle.tp_draw.proofs.OneLane.{lanes_law}
use Rattle.tp_draw.proofs.laws.each_node_has_one_lane.Goals as goal

pub returns : goal.returns
returns c = lanes_law
