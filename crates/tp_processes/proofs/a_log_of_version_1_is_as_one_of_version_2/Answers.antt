use Rattle.tp_processes.proofs.AsTwo.{acts_as_two}
use Rattle.tp_processes.proofs.a_log_of_version_1_is_as_one_of_version_2.Goals as goal

pub returns : goal.returns
returns c = acts_as_two
