use Rattle.std.proofs.Common.{◌≡◌, ◌+◌, drop}
use Rattle.tp_draw.specs.Lanes.{place_in}
use Rattle.tp_draw.proofs.lanes.place_in.Given as goal

abbrev pub invariant-loop-i : goal.invariant-loop-i
invariant-loop-i l = l.i + place_in (drop l.i l.lanes) l.node ≡ place_in l.lanes l.node
