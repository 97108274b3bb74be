use Rattle.std.proofs.Common.{length}
use Rattle.tp_network.proofs.tree_outcomes.+gather.Given as goal

abbrev pub decreases-gather : goal.decreases-gather
decreases-gather l = length l.nodes.now
