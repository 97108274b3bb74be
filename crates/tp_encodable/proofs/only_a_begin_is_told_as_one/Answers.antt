use Rattle.tp_encodable.proofs.Short.{begins_taken}
use Rattle.tp_encodable.proofs.only_a_begin_is_told_as_one.Goals as goal

pub returns : goal.returns
returns c = begins_taken
