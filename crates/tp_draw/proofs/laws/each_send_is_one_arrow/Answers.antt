use Rattle.tp_draw.proofs.Shaped.{arrows_law}
use Rattle.tp_draw.proofs.laws.each_send_is_one_arrow.Goals as goal

pub returns : goal.returns
returns c = (λ os. arrows_law os 0 os)
