use Rattle.tp_forced.proofs.TreeLogs.{one_log}
use Rattle.tp_forced.proofs.a_tree_has_one_log_at_a_node.Goals as goal

pub returns : goal.returns
returns c = one_log
