use Rattle.std.proofs.Common.{◌≡◌, ℕ, List, rules, ◌∙◌, Err, ap, sym}
use Rattle.tp_model.specs.declared.out_line.RecordFate.{RecordFate}
use Rattle.tp_model.specs.declared.out_line.OutLine.{OutLine}
use Rattle.tp_model.specs.LineReading.{both, site, words_in}
use Rattle.tp_schedule.specs.Answers.{pair, read_as}
use Rattle.tp_transcript.specs.OutWords.{fate}
use Rattle.tp_schedule.proofs.lemmas.Readings.{passed_plain, mapped, both_plain, both_form, two_alone}
use Rattle.tp_transcript.proofs.out_reading.read_stopped.Goals as goal

pub returns-in_err-site : goal.returns-in_err-site
returns-in_err-site c =
    let f = λ (p : List ℕ × RecordFate). OutLine.Stopped p.0 p.1 in
    let x = site c.in-Some.site.now in
    let y = fate c.in-Some.fate.now in
    let fault : c.from_residual.result ≡ Err c.in_err-site.field-0.0 = search rules in
    let is = fault ∙ ap (mapped f) (sym c.in_err-site.was) in
    let read : c.both.result ≡ read_as (both pair x y) = rw (c.both.ensures, c.read_site.ensures, c.read_fate.ensures) (both_plain x y) in
    passed_plain f (both pair x y) _ c.both.result _ (two_alone OutLine.Stopped site fate (words_in c.args.rest.now) _ _ c.in-Some.ensures ∙ both_form OutLine.Stopped x y) read is

pub returns : goal.returns
returns c =
    let f = λ (p : List ℕ × RecordFate). OutLine.Stopped p.0 p.1 in
    let x = site c.in-Some.site.now in
    let y = fate c.in-Some.fate.now in
    let is = ap (mapped f) (sym c.in_ok-site.was) in
    let read : c.both.result ≡ read_as (both pair x y) = rw (c.both.ensures, c.read_site.ensures, c.read_fate.ensures) (both_plain x y) in
    passed_plain f (both pair x y) _ c.both.result _ (two_alone OutLine.Stopped site fate (words_in c.args.rest.now) _ _ c.in-Some.ensures ∙ both_form OutLine.Stopped x y) read is
