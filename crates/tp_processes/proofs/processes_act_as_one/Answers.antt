use Rattle.tp_processes.proofs.Chained.{act_alike}
use Rattle.tp_processes.proofs.processes_act_as_one.Goals as goal

pub returns : goal.returns
returns c = act_alike
