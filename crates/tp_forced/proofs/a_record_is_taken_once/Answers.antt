use Rattle.tp_forced.proofs.TakenOnce.{taken_once}
use Rattle.tp_forced.proofs.a_record_is_taken_once.Goals as goal

pub returns : goal.returns
returns c = taken_once
