use Rattle.std.proofs.Common.{◌≡◌, drop}
use Rattle.tp_draw.specs.Lanes.{placed_lanes}
use Rattle.tp_draw.proofs.lanes.add_placed.Given as goal

abbrev pub invariant-loop-line : goal.invariant-loop-line
invariant-loop-line l = placed_lanes l.lanes.items (drop l.line-index l.lines) ≡ placed_lanes l.fn.lanes.items l.lines
