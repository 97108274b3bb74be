use Rattle.std.proofs.Common.{◌≡◌, ◌≤◌, drop}
use Rattle.tp_model.specs.LineReading.{value_from}
use Rattle.tp_schedule.specs.Answers.{capped}
use Rattle.tp_schedule.proofs.value.value_of.Given as goal

abbrev pub invariant-loop-digit : goal.invariant-loop-digit
invariant-loop-digit l =
    (l.value ≤ 65536) × (capped (value_from l.value (drop l.digit-index l.digits)) ≡ capped (value_from 0 l.digits))
