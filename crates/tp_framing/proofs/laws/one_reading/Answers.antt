use Rattle.tp_framing.proofs.Splits.{one_reading}
use Rattle.tp_framing.proofs.laws.one_reading.Goals as goal

pub returns : goal.returns
returns c = one_reading
