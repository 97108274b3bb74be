use Rattle.tp_outcomes.proofs.TreesAgree.{trees_agree}
use Rattle.tp_outcomes.proofs.the_nodes_of_a_tree_agree.Goals as goal

pub returns : goal.returns
returns c = trees_agree
