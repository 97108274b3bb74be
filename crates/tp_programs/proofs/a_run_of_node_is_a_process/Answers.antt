use Rattle.tp_programs.proofs.Nodes.{node_is}
use Rattle.tp_programs.proofs.a_run_of_node_is_a_process.Goals as goal

pub returns : goal.returns
returns c = node_is
