use Rattle.std.proofs.Common.{◌≡◌, true, take}
use Rattle.tp_logrec.specs.OrderCheck.{IsCheckOf}
use Rattle.tp_logrec.specs.Order.{all_follow}
use Rattle.tp_journal.proofs.disorder.first_out_of_order.Given as goal

abbrev pub invariant-loop-i : goal.invariant-loop-i
invariant-loop-i l = IsCheckOf (take l.i l.list) l.check × (all_follow (take l.i l.list) ≡ true)
