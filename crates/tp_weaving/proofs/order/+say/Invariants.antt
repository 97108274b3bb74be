use Rattle.std.proofs.Common.{length}
use Rattle.tp_weaving.proofs.order.+say.Given as goal

abbrev pub decreases-say : goal.decreases-say
decreases-say l = length l.says.now
