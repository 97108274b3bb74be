use Rattle.std.proofs.Common.{length}
use Rattle.tp_weaving.proofs.letter.+are_octets.Given as goal

abbrev pub decreases-are_octets : goal.decreases-are_octets
decreases-are_octets l = length l.a.now
