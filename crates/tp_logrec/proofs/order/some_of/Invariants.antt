use Rattle.std.proofs.Common.{◌≡◌, drop}
use Rattle.tp_logrec.specs.Binding.{some_of}
use Rattle.tp_logrec.proofs.order.some_of.Given as goal

abbrev pub invariant-loop-rec : goal.invariant-loop-rec
invariant-loop-rec l = some_of l.owner l.list ≡ some_of l.owner (drop l.rec-index l.list)
