use Rattle.tp_drive.proofs.Dealt.{made_of_lanes}
use Rattle.tp_drive.proofs.laws.a_run_is_made_of_lanes.Goals as goal

pub returns : goal.returns
returns c = made_of_lanes
