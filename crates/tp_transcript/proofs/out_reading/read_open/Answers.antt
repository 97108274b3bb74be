use Rattle.std.proofs.Common.{◌≡◌, ℕ, rules, ◌∙◌, Err, ap, sym}
use Rattle.tp_names.specs.declared.identifiers.Mark.{Mark}
use Rattle.tp_model.specs.declared.out_line.SentWords.{SentWords}
use Rattle.tp_model.specs.LineReading.{words_in, both}
use Rattle.tp_schedule.specs.Answers.{pair, read_as}
use Rattle.tp_transcript.specs.OutWords.{mark, permitted}
use Rattle.tp_schedule.proofs.lemmas.Readings.{passed_plain, mapped, both_plain, both_form, two_alone}
use Rattle.tp_transcript.proofs.out_reading.read_open.Goals as goal

pub returns-in_err-x : goal.returns-in_err-x
returns-in_err-x c =
    let f = λ (p : Mark × ℕ). SentWords.OpenAssoc p.0 p.1 in
    let x = mark c.in-Some.x.now in
    let y = permitted c.in-Some.units.now in
    let fault : c.from_residual.result ≡ Err c.in_err-x.field-0.0 = search rules in
    let is = fault ∙ ap (mapped f) (sym c.in_err-x.was) in
    let read : c.both.result ≡ read_as (both pair x y) = rw (c.both.ensures, c.read_mark.ensures, c.read_permitted.ensures) (both_plain x y) in
    passed_plain f (both pair x y) _ c.both.result _ (two_alone SentWords.OpenAssoc mark permitted (words_in c.args.rest.now) _ _ c.in-Some.ensures ∙ both_form SentWords.OpenAssoc x y) read is

pub returns : goal.returns
returns c =
    let f = λ (p : Mark × ℕ). SentWords.OpenAssoc p.0 p.1 in
    let x = mark c.in-Some.x.now in
    let y = permitted c.in-Some.units.now in
    let is = ap (mapped f) (sym c.in_ok-x.was) in
    let read : c.both.result ≡ read_as (both pair x y) = rw (c.both.ensures, c.read_mark.ensures, c.read_permitted.ensures) (both_plain x y) in
    passed_plain f (both pair x y) _ c.both.result _ (two_alone SentWords.OpenAssoc mark permitted (words_in c.args.rest.now) _ _ c.in-Some.ensures ∙ both_form SentWords.OpenAssoc x y) read is
