use Rattle.std.proofs.Common.{◌≡◌, ℕ, Err, rules, ap, sym, ◌∙◌}
use Rattle.tp_model.specs.declared.line.LineRequest.{LineRequest}
use Rattle.tp_model.specs.LineReading.{both, number, units, words_in}
use Rattle.tp_schedule.specs.Answers.{pair, read_as}
use Rattle.tp_schedule.proofs.lemmas.Readings.{passed, mapped, plain, both_plain, both_form, two_alone}
use Rattle.tp_schedule.proofs.line_reading.read_begin.Goals as goal

pub returns-in_err-peer : goal.returns-in_err-peer
returns-in_err-peer c =
    let is : c.from_residual.result ≡ Err c.in_err-peer.field-0.0 = search rules in
    let f = λ (p : ℕ × ℕ). LineRequest.BeginDialogue p.0 p.1 in
    let x = number c.in-Some.peer.now in
    let y = units c.in-Some.units.now in
    let read : c.both.result ≡ read_as (both pair x y) = rw (c.both.ensures, c.read_number.ensures, c.read_units.ensures) (both_plain x y) in
    passed f (both pair x y) _ c.both.result _
    (two_alone LineRequest.BeginDialogue number units (words_in c.args.rest.now) _ _ c.in-Some.ensures ∙ both_form LineRequest.BeginDialogue x y)
    (plain _ _ read)
    (is ∙ ap (mapped f) (sym c.in_err-peer.was))

pub returns : goal.returns
returns c =
    let f = λ (p : ℕ × ℕ). LineRequest.BeginDialogue p.0 p.1 in
    let x = number c.in-Some.peer.now in
    let y = units c.in-Some.units.now in
    let read : c.both.result ≡ read_as (both pair x y) = rw (c.both.ensures, c.read_number.ensures, c.read_units.ensures) (both_plain x y) in
    passed f (both pair x y) _ c.both.result _
    (two_alone LineRequest.BeginDialogue number units (words_in c.args.rest.now) _ _ c.in-Some.ensures ∙ both_form LineRequest.BeginDialogue x y)
    (plain _ _ read)
    (ap (mapped f) (sym c.in_ok-peer.was))
