use Rattle.std.proofs.Common.{length}
use Rattle.tp_weaving.proofs.order.+waiting.Given as goal

abbrev pub decreases-waiting : goal.decreases-waiting
decreases-waiting l = length l.lanes.now
