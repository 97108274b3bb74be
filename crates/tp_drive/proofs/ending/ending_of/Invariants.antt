use Rattle.std.proofs.Common.{take}
use Rattle.tp_drive.specs.Endings.{EndsSo}
use Rattle.tp_drive.proofs.ending.ending_of.Given as goal

abbrev pub invariant-loop-i : goal.invariant-loop-i
invariant-loop-i l = EndsSo (take l.i l.stops) l.ended
