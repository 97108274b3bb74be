use Rattle.std.proofs.Common.{◌≡◌, ℕ, List, rules, ap, ◌∙◌, Err, sym}
use Rattle.tp_model.specs.declared.out_line.LogWords.{LogWords}
use Rattle.tp_model.specs.declared.out_line.OutLine.{OutLine}
use Rattle.tp_model.specs.LineReading.{site, words_in, both}
use Rattle.tp_schedule.specs.Answers.{pair, read_as}
use Rattle.tp_transcript.specs.OutWords.{word_and}
use Rattle.tp_transcript.specs.OutReading.{read_log}
use Rattle.tp_schedule.proofs.lemmas.Readings.{passed_plain, mapped, both_plain, both_form}
use Rattle.tp_transcript.proofs.out_reading.read_logged.Goals as goal

pub returns-in_err-site : goal.returns-in_err-site
returns-in_err-site c =
    let f = λ (p : List ℕ × LogWords). OutLine.Log p.0 p.1 in
    let x = site c.in-Some.site.now in
    let y = read_log (words_in c.in-Some.rest.now) in
    let fault : c.from_residual.result ≡ Err c.in_err-site.field-0.0 = search rules in
    let is = fault ∙ ap (mapped f) (sym c.in_err-site.was) in
    let read : c.both.result ≡ read_as (both pair x y) = rw (c.both.ensures, c.read_site.ensures, c.read_log.ensures) (both_plain x y) in
    passed_plain f (both pair x y) _ c.both.result _ (ap (word_and OutLine.Log site read_log) c.in-Some.ensures ∙ both_form OutLine.Log x y) read is

pub returns : goal.returns
returns c =
    let f = λ (p : List ℕ × LogWords). OutLine.Log p.0 p.1 in
    let x = site c.in-Some.site.now in
    let y = read_log (words_in c.in-Some.rest.now) in
    let is = ap (mapped f) (sym c.in_ok-site.was) in
    let read : c.both.result ≡ read_as (both pair x y) = rw (c.both.ensures, c.read_site.ensures, c.read_log.ensures) (both_plain x y) in
    passed_plain f (both pair x y) _ c.both.result _ (ap (word_and OutLine.Log site read_log) c.in-Some.ensures ∙ both_form OutLine.Log x y) read is
