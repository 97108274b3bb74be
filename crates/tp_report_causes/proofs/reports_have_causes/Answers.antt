use Rattle.tp_report_causes.proofs.Causes.{reports_have_causes}
use Rattle.tp_report_causes.proofs.reports_have_causes.Goals as goal

pub returns : goal.returns
returns c = reports_have_causes
