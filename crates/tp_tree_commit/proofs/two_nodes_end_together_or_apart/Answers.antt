use Rattle.tp_tree_commit.proofs.Examples.{ends_together, ends_apart}
use Rattle.tp_tree_commit.proofs.two_nodes_end_together_or_apart.Goals as goal

pub returns : goal.returns
returns c = record { together = ends_together; apart = ends_apart }
