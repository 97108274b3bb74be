use Rattle.tp_failure_free.proofs.AfterEvent.{stays_counted, stays_ended}
use Rattle.tp_failure_free.proofs.what_is_noted_of_a_branch_stays.Goals as goal

pub returns-clause-answered : goal.returns-clause-answered
returns-clause-answered c = stays_counted

pub returns-clause-ended : goal.returns-clause-ended
returns-clause-ended c = stays_ended
