use Rattle.std.proofs.Common.{length}
use Rattle.tp_weaving.proofs.places.+addr_at.Given as goal

abbrev pub decreases-addr_at : goal.decreases-addr_at
decreases-addr_at l = length l.places.now
