use Rattle.std.proofs.Common.{true, false, ◌∙◌}
use Rattle.tp_model.specs.Transactions.{Transaction, and_then, begin_rolling, complete_rollback}
use Rattle.tp_commit.proofs.Courses.{after_nothing}
use Rattle.tp_commit.proofs.course.roll_below.Goals as goal

pub returns : goal.returns
returns c = λ (t : Transaction). c.three.ensures t ∙ after_nothing (record t { superior_rolled = true }) (λ u. and_then (begin_rolling false u) complete_rollback)
