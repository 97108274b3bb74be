use Rattle.tp_forced.proofs.Forced.{rolls_unforced}
use Rattle.tp_forced.proofs.leaving_and_early_rollback_force_nothing.Goals as goal

pub returns : goal.returns
returns c = rolls_unforced
