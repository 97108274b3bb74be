use Rattle.tp_seal.proofs.Images.{keeps_its_seal}
use Rattle.tp_seal.proofs.laws.a_log_that_a_call_left_keeps_its_seal.Goals as goal

pub returns : goal.returns
returns c = keeps_its_seal
