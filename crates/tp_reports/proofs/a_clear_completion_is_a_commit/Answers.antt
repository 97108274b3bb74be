use Rattle.tp_reports.proofs.ReportFree.{clear_is_committed}
use Rattle.tp_reports.proofs.a_clear_completion_is_a_commit.Goals as goal

pub returns : goal.returns
returns c = clear_is_committed
