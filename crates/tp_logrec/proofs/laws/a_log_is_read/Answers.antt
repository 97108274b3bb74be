use Rattle.tp_logrec.proofs.Logs.{log_back}
use Rattle.tp_logrec.proofs.laws.a_log_is_read.Goals as goal

pub returns : goal.returns
returns c = log_back
