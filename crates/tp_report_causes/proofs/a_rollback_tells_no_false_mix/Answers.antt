use Rattle.tp_report_causes.proofs.Rollbacks.{rollbacks_apart}
use Rattle.tp_report_causes.proofs.a_rollback_tells_no_false_mix.Goals as goal

pub returns : goal.returns
returns c = rollbacks_apart
