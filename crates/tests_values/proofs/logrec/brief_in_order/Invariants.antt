use Rattle.std.proofs.Common.{◌≡◌, true, take}
use Rattle.tp_logrec.specs.Order.{all_follow}
use Rattle.tests_values.proofs.logrec.brief_in_order.Given as goal

abbrev pub invariant-loop-i : goal.invariant-loop-i
invariant-loop-i l = all_follow (take l.i l.list) ≡ true
