use Rattle.std.proofs.Common.{refl, Ok, Err}
use Rattle.tp_serve.proofs.serving.finish.Goals as goal

pub returns-in-Ok-clause-finishes : goal.returns-in-Ok-clause-finishes
returns-in-Ok-clause-finishes g c = record { settled = Ok tt; waiting_new = c.settle.new.waiting; settles = c.in-Ok.ensures.settles; is = refl }

pub returns-in-Err-clause-finishes : goal.returns-in-Err-clause-finishes
returns-in-Err-clause-finishes g c = record { settled = Err c.in-Err.stop; waiting_new = c.settle.new.waiting; settles = c.in-Err.ensures.settles; is = refl }
