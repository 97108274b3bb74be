use Rattle.std.proofs.Common.{drop}
use Rattle.tp_text_builder.specs.Written.{Written, Adds}
use Rattle.tp_model.specs.Words.{hex}
use Rattle.tp_text_builder.proofs.numbers.put_hex.Given as goal

abbrev pub invariant-loop-octet : goal.invariant-loop-octet
invariant-loop-octet l = (end : Written) → Adds l.text (hex (drop l.octet-index l.octets)) end → Adds l.fn.text (hex l.octets) end
