use Rattle.tp_encodable.proofs.Running.{records_shaped}
use Rattle.tp_encodable.proofs.Read.{texts_shaped}
use Rattle.tp_encodable.proofs.records_keep_their_shape.Goals as goal

pub returns-clause-shaped : goal.returns-clause-shaped
returns-clause-shaped c = records_shaped

pub returns-clause-texts : goal.returns-clause-texts
returns-clause-texts c = λ o es have. records_shaped o es (texts_shaped o.version o.records have)
