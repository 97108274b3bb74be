use Rattle.tp_draw.proofs.Shaped.{takes_law}
use Rattle.tp_draw.proofs.laws.each_take_ends_one_arrow.Goals as goal

pub returns : goal.returns
returns c = takes_law
