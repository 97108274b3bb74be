use Rattle.tp_processes.proofs.Woven.{keep}
use Rattle.tp_processes.proofs.processes_keep_the_promises.Goals as goal

pub returns : goal.returns
returns c = keep
