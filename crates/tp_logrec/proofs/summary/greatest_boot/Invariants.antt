use Rattle.std.proofs.Common.{◌≡◌, take}
use Rattle.tp_logrec.specs.Order.{boots, greatest}
use Rattle.tp_logrec.proofs.summary.greatest_boot.Given as goal

abbrev pub invariant-loop-rec : goal.invariant-loop-rec
invariant-loop-rec l = l.greatest ≡ greatest (boots (take l.rec-index l.list))
