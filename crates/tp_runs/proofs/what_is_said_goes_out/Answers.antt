use Rattle.tp_runs.proofs.Framed.{goes_out}
use Rattle.tp_runs.proofs.what_is_said_goes_out.Goals as goal

pub returns : goal.returns
returns c = goes_out
