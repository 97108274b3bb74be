use Rattle.tp_report_causes.proofs.Alarms.{no_false_alarm}
use Rattle.tp_report_causes.proofs.no_report_is_a_false_alarm.Goals as goal

pub returns : goal.returns
returns c = no_false_alarm
