use Rattle.std.proofs.Common.{◌≡◌, drop}
use Rattle.tp_logrec.specs.Order.{all_below, boots}
use Rattle.tp_logrec.proofs.order.boots_are_below.Given as goal

abbrev pub invariant-loop-rec : goal.invariant-loop-rec
invariant-loop-rec l = all_below l.number (boots l.list) ≡ all_below l.number (boots (drop l.rec-index l.list))
