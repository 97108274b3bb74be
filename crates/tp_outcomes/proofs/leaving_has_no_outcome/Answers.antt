use Rattle.tp_outcomes.proofs.Shown.{left_untold}
use Rattle.tp_outcomes.proofs.leaving_has_no_outcome.Goals as goal

pub returns : goal.returns
returns c = left_untold
