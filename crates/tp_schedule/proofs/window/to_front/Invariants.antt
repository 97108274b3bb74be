use Rattle.std.proofs.Common.{◌≡◌, ℕ, ◌+◌, ◌<◌, ◌≤◌, get_or}
use Rattle.tp_schedule.proofs.window.to_front.Given as goal

abbrev pub invariant-loop-i : goal.invariant-loop-i
invariant-loop-i l =
    ((k : ℕ) → k < l.i → get_or l.buffer k 0 ≡ get_or l.initial.buffer (l.from + k) 0) × ((k : ℕ) → l.i ≤ k → get_or l.buffer k 0 ≡ get_or l.initial.buffer k 0)
