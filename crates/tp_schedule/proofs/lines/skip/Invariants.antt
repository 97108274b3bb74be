use Rattle.std.proofs.Common.{◌≡◌, ℕ, ◌+◌, ◌<◌, ◌≤◌, ◌-◌, Some, true, List, length, take, drop}
use Rattle.tp_schedule.specs.AtHand.{together, no_feed}
use Rattle.tp_schedule.proofs.lines.skip.Given as goal

-- of the bytes that there were, those after the ones taken are left, and none of these is a line feed
abbrev pub invariant-loop-taken : goal.invariant-loop-taken
invariant-loop-taken g l =
    (8193 < l.taken) × (l.before + l.taken ≤ 1060864)
    × ((bytes : List ℕ) → together l.fn.window (g.S.Source.left l.fn.source) ≡ Some bytes → (g.S.Source.left l.source ≡ Some (drop l.taken bytes)) × (no_feed (take l.taken bytes) ≡ true) × (l.taken ≤ length bytes))
    × (g.S.Source.fault_count l.fn.source ≤ g.S.Source.fault_count l.source)

abbrev pub decreases-loop-taken : goal.decreases-loop-taken
decreases-loop-taken g l = 1048577 - (l.before + l.taken)
