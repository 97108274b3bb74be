use Rattle.std.proofs.Common.{◌≡◌, drop}
use Rattle.tp_draw.specs.Pictures.{first_begin}
use Rattle.tp_draw.proofs.drawing.first_begin.Given as goal

abbrev pub invariant-loop-row : goal.invariant-loop-row
invariant-loop-row l = first_begin l.row (drop l.row l.lines) ≡ first_begin 0 l.lines
