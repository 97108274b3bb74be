use Rattle.std.proofs.Common.{◌≡◌, ◌≤◌, ◌-◌, true, length, take}
use Rattle.tp_schedule.specs.AtHand.{together, no_feed}
use Rattle.tp_schedule.proofs.lines.read_on.Given as goal

abbrev pub invariant-loop-at : goal.invariant-loop-at
invariant-loop-at g l =
    (l.seen ≤ length l.window) × (no_feed (take l.seen l.window) ≡ true)
    × (together l.window (g.S.Source.left l.source) ≡ together l.fn.window (g.S.Source.left l.fn.source))
    × (g.S.Source.fault_count l.fn.source ≤ g.S.Source.fault_count l.source)

abbrev pub decreases-loop-at : goal.decreases-loop-at
decreases-loop-at g l = 12288 - length l.window
