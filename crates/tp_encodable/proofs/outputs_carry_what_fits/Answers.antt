use Rattle.tp_encodable.proofs.Read.{entry_short}
use Rattle.tp_encodable.proofs.outputs_carry_what_fits.Goals as goal

pub returns : goal.returns
returns c = entry_short
