use Rattle.tp_draw.proofs.ChosenLanes.{kept_lane, no_other_lane}
use Rattle.tp_draw.proofs.laws.a_chosen_node_keeps_its_lane.Goals as goal

pub returns-clause-kept : goal.returns-clause-kept
returns-clause-kept c = kept_lane

pub returns-clause-others : goal.returns-clause-others
returns-clause-others c = no_other_lane
