use Rattle.std.proofs.Common.{◌≡◌, ℕ, List, rules, ap, ◌∙◌, Err, sym}
use Rattle.tp_model.specs.declared.out_line.OutLine.{OutLine}
use Rattle.tp_model.specs.LineReading.{site, words_in, both, one_word}
use Rattle.tp_schedule.specs.Answers.{pair, same, Reads}
use Rattle.tp_transcript.specs.OutReading.{hex_word, read_image}
use Rattle.tp_schedule.proofs.lemmas.Readings.{passed, mapped, plain, both_reads, both_form}
use Rattle.tp_transcript.proofs.OutForms.{image_some}
use Rattle.tp_transcript.proofs.out_reading.read_image.Goals as goal

pub returns-in_err-site-2 : goal.returns-in_err-site-2
returns-in_err-site-2 c =
    let f = λ (p : List ℕ × List ℕ). OutLine.Image p.0 p.1 in
    let x = site c.in-Some.site.now in
    let y = one_word same hex_word (words_in c.in-Some.rest.now) in
    let fault : c.from_residual-in_err-site-2.result ≡ Err c.in_err-site-2.field-0.0 = search rules in
    let is = fault ∙ ap (mapped f) (sym c.in_err-site-2.was) in
    let read : Reads (both pair x y) c.both.result = rw c.both.ensures (both_reads x y _ _ (plain _ _ c.read_site-2.ensures) c.one_hex-bytes.ensures) in
    passed f (both pair x y) _ c.both.result _ (ap read_image c.in-Some.ensures ∙ image_some c.in-Some.site.now (words_in c.in-Some.rest.now) _ _ c.in-Some-next_word.ensures ∙ both_form OutLine.Image x y) read is

pub returns : goal.returns
returns c =
    let f = λ (p : List ℕ × List ℕ). OutLine.Image p.0 p.1 in
    let x = site c.in-Some.site.now in
    let y = one_word same hex_word (words_in c.in-Some.rest.now) in
    let is = ap (mapped f) (sym c.in_ok-site-2.was) in
    let read : Reads (both pair x y) c.both.result = rw c.both.ensures (both_reads x y _ _ (plain _ _ c.read_site-2.ensures) c.one_hex-bytes.ensures) in
    passed f (both pair x y) _ c.both.result _ (ap read_image c.in-Some.ensures ∙ image_some c.in-Some.site.now (words_in c.in-Some.rest.now) _ _ c.in-Some-next_word.ensures ∙ both_form OutLine.Image x y) read is
