use Rattle.std.proofs.Common.{◌≡◌, ◌++◌}
use Rattle.tp_draw.specs.Svg.{hops}
use Rattle.tp_draw.proofs.arrow.write_hops.Given as goal

abbrev pub invariant-loop-i : goal.invariant-loop-i
invariant-loop-i l = l.out ≡ l.fn.out ++ hops l.view l.right l.from l.i
