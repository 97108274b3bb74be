use Rattle.std.proofs.Common.{◌≡◌, ◌++◌, drop}
use Rattle.tp_logrec.specs.Order.{others}
use Rattle.tp_logrec.proofs.bindings.others.Given as goal

abbrev pub invariant-loop-other : goal.invariant-loop-other
invariant-loop-other l = l.left.items ++ others (drop l.other-index l.owners) l.owner ≡ others l.owners l.owner
