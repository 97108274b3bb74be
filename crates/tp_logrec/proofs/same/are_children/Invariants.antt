use Rattle.std.proofs.Common.{◌≡◌, drop}
use Rattle.tp_logrec.specs.Order.{are_children}
use Rattle.tp_logrec.proofs.same.are_children.Given as goal

abbrev pub invariant-loop-i : goal.invariant-loop-i
invariant-loop-i l = are_children l.a l.b ≡ are_children (drop l.i l.a) (drop l.i l.b)
