use Rattle.std.proofs.Common.{◌≡◌, drop}
use Rattle.tp_schedule.specs.Answers.{has_capital}
use Rattle.tp_schedule.proofs.value.has_capital.Given as goal

abbrev pub invariant-loop-byte : goal.invariant-loop-byte
invariant-loop-byte l = has_capital (drop l.byte-index l.word) ≡ has_capital l.word
