use Rattle.tp_runs.proofs.Bare.{left_is_bare}
use Rattle.tp_runs.proofs.leaving_is_silent.Goals as goal

pub returns : goal.returns
returns c = left_is_bare
