use Rattle.std.proofs.Common.{◌≡◌, drop, None}
use Rattle.std.specs.Option.{option_copied}
use Rattle.tp_logrec.specs.Order.{last_from}
use Rattle.tp_logrec.proofs.order.last_of.Given as goal

abbrev pub invariant-loop-rec : goal.invariant-loop-rec
invariant-loop-rec l = last_from l.owner None l.list ≡ last_from l.owner (option_copied l.last) (drop l.rec-index l.list)
