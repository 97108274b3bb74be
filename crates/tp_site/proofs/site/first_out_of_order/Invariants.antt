use Rattle.std.proofs.Common.{◌≡◌, true, map, take}
use Rattle.tp_logrec.specs.Order.{all_follow}
use Rattle.tp_logrec.specs.OrderCheck.{IsCheckOf}
use Rattle.tp_site.proofs.site.first_out_of_order.Given as goal

-- those before are in order
abbrev pub invariant-loop-i : goal.invariant-loop-i
invariant-loop-i g l =
    IsCheckOf (map (λ r. r.rec) (take l.i (g.K.Keeper.standing l.keeper).told)) l.check
    × (all_follow (map (λ r. r.rec) (take l.i (g.K.Keeper.standing l.keeper).told)) ≡ true)
