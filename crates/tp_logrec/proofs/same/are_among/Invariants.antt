use Rattle.std.proofs.Common.{◌≡◌, drop}
use Rattle.tp_logrec.specs.Order.{are_among}
use Rattle.tp_logrec.proofs.same.are_among.Given as goal

abbrev pub invariant-loop-child : goal.invariant-loop-child
invariant-loop-child l = are_among l.some l.all ≡ are_among l.left (drop l.child-index l.all)
