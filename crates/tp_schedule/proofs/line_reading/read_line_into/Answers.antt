use Rattle.std.proofs.Common.{◌≡◌, Err, Some, Option, Bool, rules, Result, ap, sym, ◌∙◌, subst, arith}
use Rattle.std.specs.Prelude.{IfSome}
use Rattle.tp_schedule.specs.declared.line_fault.LineFault.{LineFault}
use Rattle.tp_model.specs.declared.line.Line.{Line}
use Rattle.tp_model.specs.LineReading.{read_line}
use Rattle.tp_schedule.specs.Answers.{answered, filled, put_into}
use Rattle.tp_schedule.proofs.lemmas.Readings.{mapped}
use Rattle.tp_schedule.proofs.LineForms.{line_said}
use Rattle.tp_schedule.proofs.line_reading.read_line_into.Goals as goal

pub returns-in_err-read_words : goal.returns-in_err-read_words
returns-in_err-read_words c =
    let is : c.from_residual.result ≡ Err c.in_err-read_words.field-0.0 = search rules in
    let bs = c.args.bytes.now in
    let line = c.read_words.new.line in
    subst
    (λ (r : Result (Option Line) LineFault). IfSome (answered r) (λ reading. reading ≡ read_line bs))
    (ap (λ (r : Result (Unit {0}) LineFault). mapped Some (filled r line)) c.in_err-read_words.was ∙ sym (ap (λ (r : Result Bool LineFault). put_into r line) is))
    (line_said bs _ _ (filled c.read_words.result line) (omega arith) (sym c.is_comment.ensures ∙ c.if-is_comment.false) c.in-Some.ensures c.read_words.ensures)

pub returns : goal.returns
returns c =
    let bs = c.args.bytes.now in
    let line = c.read_words.new.line in
    subst
    (λ (r : Result (Option Line) LineFault). IfSome (answered r) (λ reading. reading ≡ read_line bs))
    (ap (λ (r : Result (Unit {0}) LineFault). mapped Some (filled r line)) c.in_ok-read_words.was)
    (line_said bs _ _ (filled c.read_words.result line) (omega arith) (sym c.is_comment.ensures ∙ c.if-is_comment.false) c.in-Some.ensures c.read_words.ensures)
