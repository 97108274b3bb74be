use Rattle.tp_draw.proofs.Shaped.{marks_law}
use Rattle.tp_draw.proofs.laws.each_log_line_is_one_mark.Goals as goal

pub returns : goal.returns
returns c = (λ os. marks_law os 0 os)
