use Rattle.std.proofs.Common.{◌≡◌, ◌+◌, drop}
use Rattle.tp_draw.specs.Lanes.{first_of}
use Rattle.tp_draw.proofs.lanes.first_of.Given as goal

abbrev pub invariant-loop-i : goal.invariant-loop-i
invariant-loop-i l = l.i + first_of (drop l.i l.lanes) l.site ≡ first_of l.lanes l.site
