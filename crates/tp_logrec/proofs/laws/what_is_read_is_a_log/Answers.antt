use Rattle.tp_logrec.proofs.ReadLogs.{read_is_log}
use Rattle.tp_logrec.proofs.laws.what_is_read_is_a_log.Goals as goal

pub returns : goal.returns
returns c = read_is_log
