use Rattle.std.proofs.Common.{◌≡◌, ◌++◌, drop}
use Rattle.tp_logrec.specs.Order.{brief_lives}
use Rattle.tp_logrec.specs.Lives.{begun, lives_begun}
use Rattle.tp_logrec.proofs.summary.add_lives.Given as goal

abbrev pub invariant-loop-i : goal.invariant-loop-i
invariant-loop-i l = l.fn.short.items ++ brief_lives (lives_begun (begun l.lives) 0 l.list) ≡ l.short.items ++ brief_lives (lives_begun (begun l.lives) l.i (drop l.i l.list))
