use Rattle.tp_failure_free.proofs.LiveArcs.{branch_live, superior_live}
use Rattle.tp_failure_free.proofs.an_open_branch_has_a_live_arc.Goals as goal

pub returns-clause-branches : goal.returns-clause-branches
returns-clause-branches c = branch_live

pub returns-clause-superior : goal.returns-clause-superior
returns-clause-superior c = superior_live
