use Rattle.tp_failure_free.proofs.DrainedCommits.{tree_commits, tree_closes, settled_in_time}
use Rattle.tp_laws.proofs.a_settled_tree_has_committed.Goals as goal

pub returns : goal.returns
returns c = record { nodes = tree_commits; line = tree_closes; whole = settled_in_time }
