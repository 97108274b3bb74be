use Rattle.std.proofs.Common.{◌≡◌, drop}
use Rattle.tp_draw.specs.Lanes.{named_lanes}
use Rattle.tp_draw.proofs.lanes.add_named.Given as goal

abbrev pub invariant-loop-line : goal.invariant-loop-line
invariant-loop-line l = named_lanes l.lanes.items (drop l.line-index l.lines) ≡ named_lanes l.fn.lanes.items l.lines
