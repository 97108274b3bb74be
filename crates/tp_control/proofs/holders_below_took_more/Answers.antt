use Rattle.tp_control.proofs.TookMore.{took_more}
use Rattle.tp_control.proofs.holders_below_took_more.Goals as goal

pub returns : goal.returns
returns c = took_more
