use Rattle.std.proofs.Common.{length}
use Rattle.tp_schedule.proofs.value.+units_from.Given as goal

abbrev pub decreases-units_from : goal.decreases-units_from
decreases-units_from l = length l.letters.now
