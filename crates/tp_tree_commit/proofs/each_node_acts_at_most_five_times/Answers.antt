use Rattle.tp_tree_commit.proofs.Ends.{five_at_most, runs_are_counted}
use Rattle.tp_tree_commit.proofs.each_node_acts_at_most_five_times.Goals as goal

pub returns : goal.returns
returns c = record { most = five_at_most; counted = runs_are_counted }
