use Rattle.tp_outcomes.proofs.Shown.{one_is_shown, told_of_trees}
use Rattle.tp_outcomes.proofs.one_outcome_is_shown.Goals as goal

pub returns : goal.returns
returns c = record { shown = one_is_shown; trees = told_of_trees }
