use Rattle.tp_reports.proofs.ReportFree.{report_free_commits, report_free_closes}
use Rattle.tp_laws.proofs.a_report_free_tree_has_committed.Goals as goal

pub returns : goal.returns
returns c = record { nodes = report_free_commits; line = report_free_closes }
