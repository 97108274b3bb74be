use Rattle.tp_outcomes.proofs.CountedThere.{counted_is_there}
use Rattle.tp_outcomes.proofs.a_counted_branch_is_there.Goals as goal

pub returns : goal.returns
returns c = counted_is_there
