use Rattle.tp_runs.proofs.Left.{left_is_not_rolled}
use Rattle.tp_runs.proofs.leaving_is_not_rolling.Goals as goal

pub returns : goal.returns
returns c = left_is_not_rolled
