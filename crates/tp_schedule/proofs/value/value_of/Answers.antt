use Rattle.std.proofs.Common.{◌≡◌, ℕ, ◌+◌, ◌*◌, ◌-◌, drop, get_or, min, arith, ap, sym, ◌∙◌}
use Rattle.tp_model.specs.LineReading.{value_from}
use Rattle.tp_schedule.specs.Answers.{capped}
use Rattle.tp_schedule.proofs.Values.{value_step}
use Rattle.tp_schedule.proofs.value.value_of.Goals as goal

pub loop-digit-preserved : goal.loop-digit-preserved
loop-digit-preserved c =
    let ds = c.args.digits.now in
    let i = c.loop-digit.digit-index in
    let is : c.min-value.result ≡ min (c.loop-digit.value * 10 + (get_or ds i 0 - 48)) 65536 =
    c.min-value.ensures ∙ ap (λ (d : ℕ). min (c.loop-digit.value * 10 + d) 65536) c.from.ensures in (
      omega arith,
      ap (λ (v : ℕ). capped (value_from v (drop (i + 1) ds))) is
          ∙ value_step ds i c.loop-digit.value (omega arith) (sym c.is_digit.ensures ∙ c.if-not-is_digit.false)
          ∙ c.loop-digit.invariant.1,
    )
