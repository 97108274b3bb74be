use Rattle.tp_processes.proofs.Chained.{leave_the_log, leave_it_whole}
use Rattle.tp_processes.proofs.processes_leave_the_log.Goals as goal

pub returns : goal.returns
returns c = record { leaves = leave_the_log; whole = leave_it_whole }
