use Rattle.std.proofs.Common.{◌≡◌, ℕ, rules, ◌∙◌, Err, ap, sym}
use Rattle.tp_names.specs.declared.identifiers.Mark.{Mark}
use Rattle.tp_model.specs.declared.out_line.SentWords.{SentWords}
use Rattle.tp_model.specs.LineReading.{words_in, both}
use Rattle.tp_schedule.specs.Answers.{pair, read_as}
use Rattle.tp_transcript.specs.OutWords.{mark, permitted}
use Rattle.tp_schedule.proofs.lemmas.Readings.{passed_plain, mapped, both_plain, three_form}
use Rattle.tp_transcript.proofs.OutForms.{three_found}
use Rattle.tp_transcript.proofs.out_reading.read_accept.Goals as goal

pub returns-in_err-x : goal.returns-in_err-x
returns-in_err-x c =
    let f = λ (p : (Mark × Mark) × ℕ). SentWords.AcceptAssoc p.0.0 p.0.1 p.1 in
    let x = both pair (mark c.in-Some.x.now) (mark c.in-Some.y.now) in
    let y = permitted c.in-Some.units.now in
    let marks : c.both-marks.result ≡ read_as x = rw (c.both-marks.ensures, c.read_mark.ensures, c.read_mark-2.ensures) (both_plain (mark c.in-Some.x.now) (mark c.in-Some.y.now)) in
    let fault : c.from_residual.result ≡ Err c.in_err-x.field-0.0 = search rules in
    let is = fault ∙ ap (mapped f) (sym c.in_err-x.was) in
    let read : c.both.result ≡ read_as (both pair x y) = rw (c.both.ensures, marks, c.read_permitted.ensures) (both_plain x y) in
    passed_plain f (both pair x y) _ c.both.result _ (three_found SentWords.AcceptAssoc mark mark permitted (words_in c.args.rest.now) _ _ _ c.in-Some.ensures ∙ three_form SentWords.AcceptAssoc (mark c.in-Some.x.now) (mark c.in-Some.y.now) y) read is

pub returns : goal.returns
returns c =
    let f = λ (p : (Mark × Mark) × ℕ). SentWords.AcceptAssoc p.0.0 p.0.1 p.1 in
    let x = both pair (mark c.in-Some.x.now) (mark c.in-Some.y.now) in
    let y = permitted c.in-Some.units.now in
    let marks : c.both-marks.result ≡ read_as x = rw (c.both-marks.ensures, c.read_mark.ensures, c.read_mark-2.ensures) (both_plain (mark c.in-Some.x.now) (mark c.in-Some.y.now)) in
    let is = ap (mapped f) (sym c.in_ok-x.was) in
    let read : c.both.result ≡ read_as (both pair x y) = rw (c.both.ensures, marks, c.read_permitted.ensures) (both_plain x y) in
    passed_plain f (both pair x y) _ c.both.result _ (three_found SentWords.AcceptAssoc mark mark permitted (words_in c.args.rest.now) _ _ _ c.in-Some.ensures ∙ three_form SentWords.AcceptAssoc (mark c.in-Some.x.now) (mark c.in-Some.y.now) y) read is
