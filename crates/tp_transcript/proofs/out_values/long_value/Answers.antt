use Rattle.std.proofs.Common.{◌+◌, ◌-◌, ◌*◌, drop, get_or, arith, ap, sym, ◌∙◌}
use Rattle.tp_transcript.specs.OutWords.{if_long}
use Rattle.tp_transcript.proofs.OutCut.{long_step, stays_large}
use Rattle.tp_transcript.proofs.out_values.long_value.Goals as goal

pub returns-then-value-digit : goal.returns-then-value-digit
returns-then-value-digit c =
    let ds = c.args.digits.now in
    let i = c.loop-byte.byte-index in
    let v = c.loop-byte.value in
    sym (stays_large (drop (i + 1) ds) (v * 10 + (get_or ds i 0 - 48)) (omega (arith, c.from-digit.ensures, c.if-value-digit.true)))
    ∙ ap if_long (long_step ds i v c.loop-byte-test.true (sym c.is_digit.ensures ∙ c.if-not-is_digit.false))
    ∙ c.loop-byte.invariant
