use Rattle.std.proofs.Common.{◌≤◌, ◌-◌, length}
use Rattle.tp_network.specs.Frames.{leading}
use Rattle.tp_network.proofs.frames.first_unhanded.Given as goal

abbrev pub invariant-loop-i : goal.invariant-loop-i
invariant-loop-i l = l.i ≤ leading l.frames

abbrev pub decreases-loop-i : goal.decreases-loop-i
decreases-loop-i l = length l.frames - l.i
