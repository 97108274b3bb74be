use Rattle.std.proofs.Common.{◌≡◌, take}
use Rattle.tp_shared_log.proofs.shared_log.receipts_told.Given as goal

abbrev pub invariant-loop-i : goal.invariant-loop-i
invariant-loop-i g l = l.told.items ≡ take l.i (g.K.Keeper.standing l.keeper).told
