use Rattle.tp_bound.proofs.BodyWritten.{bodies_are_texts}
use Rattle.tp_bound.proofs.laws.bodies_have_texts.Goals as goal

pub returns : goal.returns
returns c = bodies_are_texts
