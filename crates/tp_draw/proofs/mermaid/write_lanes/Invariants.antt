use Rattle.std.proofs.Common.{◌≡◌, ◌++◌, drop}
use Rattle.tp_draw.specs.Mermaid.{lanes_words}
use Rattle.tp_draw.proofs.mermaid.write_lanes.Given as goal

abbrev pub invariant-loop-place : goal.invariant-loop-place
invariant-loop-place l = l.out ++ lanes_words l.place (drop l.place l.lanes) ≡ l.fn.out ++ lanes_words 0 l.lanes
