use Rattle.std.proofs.Common.{◌≡◌, ◌++◌, drop}
use Rattle.tp_draw.specs.Svg.{lanes_text}
use Rattle.tp_draw.proofs.svg.write_lanes.Given as goal

abbrev pub invariant-loop-place : goal.invariant-loop-place
invariant-loop-place l = l.out ++ lanes_text l.view l.lanes l.high l.place (drop l.place l.lanes) ≡ l.fn.out ++ lanes_text l.view l.lanes l.high 0 l.lanes
