use Rattle.std.proofs.Common.{◌≡◌, drop}
use Rattle.tp_logrec.specs.Order.{last_boot_from}
use Rattle.tp_logrec.proofs.order.last_boot.Given as goal

abbrev pub invariant-loop-rec : goal.invariant-loop-rec
invariant-loop-rec l = last_boot_from 0 l.list ≡ last_boot_from l.number (drop l.rec-index l.list)
