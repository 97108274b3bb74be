use Rattle.tp_logrec.proofs.Logs.{one_list}
use Rattle.tp_logrec.proofs.laws.a_log_stands_for_one_list.Goals as goal

pub returns : goal.returns
returns c = one_list
