use Rattle.std.proofs.Common.{◌≡◌, drop}
use Rattle.tp_logrec.specs.Binding.{none_binds}
use Rattle.tp_logrec.proofs.order.is_free.Given as goal

abbrev pub invariant-loop-i : goal.invariant-loop-i
invariant-loop-i l = none_binds l.node l.list ≡ none_binds l.node (drop l.i l.list)
