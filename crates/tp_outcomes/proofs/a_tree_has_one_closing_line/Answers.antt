use Rattle.tp_outcomes.proofs.TreesListed.{listed_once, closes_once}
use Rattle.tp_outcomes.proofs.a_tree_has_one_closing_line.Goals as goal

pub returns : goal.returns
returns c = record { listed = listed_once; closed = closes_once }
