use Rattle.tp_finality.proofs.Lasting.{committed_for_good, closed_for_good}
use Rattle.tp_finality.proofs.a_settled_tree_has_committed_for_good.Goals as goal

pub returns : goal.returns
returns c = record { nodes = committed_for_good; line = closed_for_good }
