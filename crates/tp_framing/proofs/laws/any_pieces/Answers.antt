use Rattle.std.proofs.Common.{[]}
use Rattle.tp_framing.specs.Fed.{fresh}
use Rattle.tp_framing.proofs.Splits.{leads_split, split_fresh}
use Rattle.tp_framing.proofs.laws.any_pieces.Goals as goal

pub returns : goal.returns
returns c = λ steps f leads. leads_split steps [] [] fresh f split_fresh leads
