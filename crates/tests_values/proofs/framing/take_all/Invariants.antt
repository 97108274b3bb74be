use Rattle.std.proofs.Common.{◌≡◌, length}
use Rattle.tp_framing.specs.Fed.{fed_so_far}
use Rattle.tests_values.proofs.framing.take_all.Given as goal

abbrev pub invariant-loop-bad : goal.invariant-loop-bad
invariant-loop-bad l = fed_so_far l.frames ≡ fed_so_far l.fn.frames

abbrev pub decreases-loop-bad : goal.decreases-loop-bad
decreases-loop-bad l = length l.frames.pending
