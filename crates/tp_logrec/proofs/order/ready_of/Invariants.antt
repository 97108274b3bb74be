use Rattle.std.proofs.Common.{◌≡◌, drop, None}
use Rattle.std.specs.Option.{option_copied}
use Rattle.tp_logrec.specs.Order.{ready_from}
use Rattle.tp_logrec.proofs.order.ready_of.Given as goal

abbrev pub invariant-loop-rec : goal.invariant-loop-rec
invariant-loop-rec l = ready_from l.owner None l.list ≡ ready_from l.owner (option_copied l.ready) (drop l.rec-index l.list)
