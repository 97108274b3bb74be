use Rattle.tp_failure_free.proofs.ClearLaw.{clear_report}
use Rattle.tp_failure_free.proofs.branches_without_a_report_leave_none.Goals as goal

pub returns : goal.returns
returns c = clear_report
