use Rattle.tp_logrec.proofs.Logs.{foreign_is_none}
use Rattle.tp_logrec.proofs.laws.foreign_bytes_are_no_log.Goals as goal

pub returns : goal.returns
returns c = foreign_is_none
