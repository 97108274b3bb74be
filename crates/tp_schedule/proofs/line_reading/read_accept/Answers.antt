use Rattle.std.proofs.Common.{◌≡◌, Err, rules, ap, sym, ◌∙◌}
use Rattle.tp_model.specs.declared.line.LineRequest.{LineRequest}
use Rattle.tp_model.specs.LineReading.{units, words_in}
use Rattle.tp_schedule.proofs.lemmas.Readings.{passed, mapped, plain, one_alone}
use Rattle.tp_schedule.proofs.line_reading.read_accept.Goals as goal

pub returns-in_err-units : goal.returns-in_err-units
returns-in_err-units c =
    let is : c.from_residual.result ≡ Err c.in_err-units.field-0.0 = search rules in
    passed LineRequest.Accept (units c.in-Some.word.now) _ c.read_units.result _
    (one_alone LineRequest.Accept units (words_in c.args.rest.now) _ c.in-Some.ensures)
    (plain _ _ c.read_units.ensures)
    (is ∙ ap (mapped LineRequest.Accept) (sym c.in_err-units.was))
