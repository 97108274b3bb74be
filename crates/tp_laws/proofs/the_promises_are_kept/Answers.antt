use Rattle.tp_laws.proofs.Promises.{promised}
use Rattle.tp_laws.proofs.the_promises_are_kept.Goals as goal

pub returns : goal.returns
returns c = promised
