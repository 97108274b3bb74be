use Rattle.tp_control.proofs.EndsRounds.{above_took_back}
use Rattle.tp_control.proofs.holders_above_took_back.Goals as goal

pub returns : goal.returns
returns c = above_took_back
