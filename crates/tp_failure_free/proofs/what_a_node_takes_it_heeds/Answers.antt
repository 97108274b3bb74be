use Rattle.tp_failure_free.proofs.Heeds.{heeds_ready, heeds_commit, heeds_done}
use Rattle.tp_failure_free.proofs.what_a_node_takes_it_heeds.Goals as goal

pub returns-clause-answers : goal.returns-clause-answers
returns-clause-answers c = heeds_ready

pub returns-clause-orders : goal.returns-clause-orders
returns-clause-orders c = heeds_commit

pub returns-clause-ends : goal.returns-clause-ends
returns-clause-ends c = heeds_done
