use Rattle.tp_journal.proofs.AsLogs.{is_log, stands}
use Rattle.tp_journal.proofs.laws.a_log_stands_for_its_records.Goals as goal

pub returns-clause-is_log : goal.returns-clause-is_log
returns-clause-is_log c file wide rs each s = is_log file wide rs each s

pub returns-clause-stands : goal.returns-clause-stands
returns-clause-stands c file rs log = stands file rs log
