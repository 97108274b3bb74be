use Rattle.tp_reports.proofs.ClearedFate.{branch_fate}
use Rattle.tp_reports.proofs.a_branch_keeps_its_tree_until_it_ends.Goals as goal

pub returns : goal.returns
returns c = branch_fate
