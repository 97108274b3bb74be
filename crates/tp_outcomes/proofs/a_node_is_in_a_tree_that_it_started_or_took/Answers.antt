use Rattle.tp_outcomes.proofs.TreesListed.{belongs_so}
use Rattle.tp_outcomes.proofs.a_node_is_in_a_tree_that_it_started_or_took.Goals as goal

pub returns : goal.returns
returns c = belongs_so
