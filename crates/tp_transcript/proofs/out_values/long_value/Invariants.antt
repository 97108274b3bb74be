use Rattle.std.proofs.Common.{◌≡◌, drop}
use Rattle.tp_model.specs.LineReading.{value_from}
use Rattle.tp_transcript.specs.OutWords.{if_long}
use Rattle.tp_transcript.proofs.out_values.long_value.Given as goal

abbrev pub invariant-loop-byte : goal.invariant-loop-byte
invariant-loop-byte l = if_long (value_from l.value (drop l.byte-index l.digits)) ≡ if_long (value_from 0 l.digits)
