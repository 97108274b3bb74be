use Rattle.std.proofs.Common.{◌-◌, length, ◌∙◌, arith}
use Rattle.std.proofs.lemmas.List.{take_all}
use Rattle.tp_schedule.proofs.LineCuts.{without_it, with_all, no_line}
use Rattle.tp_schedule.proofs.lines.line_len.Goals.{else-len-gt0-via-then-len-gt0+else-line-len-eq13, else-len-gt0-via-else-len-gt0}
use Rattle.tp_schedule.proofs.lines.line_len.Goals as goal

pub returns-then-line-len-eq13-clause-value : goal.returns-then-line-len-eq13-clause-value
returns-then-line-len-eq13-clause-value c =
    let w = c.args.line.now in
    without_it w (length w - 1) (omega (arith, c.if-len-gt0.true)) c.if-line-len-eq13.true

pub returns-else-len-gt0-clause-value : goal.returns-else-len-gt0-clause-value
returns-else-len-gt0-clause-value c =
    let w = c.args.line.now in
    take_all (length w) w (omega arith) ∙ elim c.else-len-gt0.branch [
      | else-len-gt0-via-then-len-gt0+else-line-len-eq13 b ↦ with_all w (length w - 1) (omega (arith, b.if-len-gt0.true)) b.if-line-len-eq13.false
      | else-len-gt0-via-else-len-gt0 b ↦ no_line w (omega (arith, b.if-len-gt0.false))
    ]
