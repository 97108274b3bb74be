use Rattle.tp_reports.proofs.ReportFree.{clear_below}
use Rattle.tp_reports.proofs.a_clear_completion_answers_for_its_branches.Goals as goal

pub returns : goal.returns
returns c = clear_below
