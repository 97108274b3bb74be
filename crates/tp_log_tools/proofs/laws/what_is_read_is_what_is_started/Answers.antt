use Rattle.tp_log_tools.proofs.Breaking.{foreign_is_read}
use Rattle.tp_log_tools.proofs.Found.{found_is_read}
use Rattle.tp_log_tools.proofs.laws.what_is_read_is_what_is_started.Goals as goal

pub returns-clause-found : goal.returns-clause-found
returns-clause-found c = found_is_read

pub returns-clause-foreign : goal.returns-clause-foreign
returns-clause-foreign c = foreign_is_read
