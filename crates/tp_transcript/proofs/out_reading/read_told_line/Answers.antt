use Rattle.std.proofs.Common.{◌≡◌, ℕ, rules, ap, ◌∙◌, Err, sym}
use Rattle.tp_records.specs.declared.indication.Indication.{Indication}
use Rattle.tp_model.specs.declared.out_line.OutLine.{OutLine}
use Rattle.tp_model.specs.LineReading.{number, words_in, both}
use Rattle.tp_schedule.specs.Answers.{pair, Reads}
use Rattle.tp_transcript.specs.OutWords.{word_and}
use Rattle.tp_transcript.specs.OutReading.{read_told}
use Rattle.tp_schedule.proofs.lemmas.Readings.{passed, mapped, plain, both_reads, both_form}
use Rattle.tp_transcript.proofs.out_reading.read_told_line.Goals as goal

pub returns-in_err-node : goal.returns-in_err-node
returns-in_err-node c =
    let f = λ (p : ℕ × Indication). OutLine.Tell p.0 p.1 in
    let x = number c.in-Some.node.now in
    let y = read_told (words_in c.in-Some.rest.now) in
    let fault : c.from_residual.result ≡ Err c.in_err-node.field-0.0 = search rules in
    let is = fault ∙ ap (mapped f) (sym c.in_err-node.was) in
    let read : Reads (both pair x y) c.both.result = rw c.both.ensures (both_reads x y _ _ (plain _ _ c.read_number.ensures) c.read_told.ensures) in
    passed f (both pair x y) _ c.both.result _ (ap (word_and OutLine.Tell number read_told) c.in-Some.ensures ∙ both_form OutLine.Tell x y) read is

pub returns : goal.returns
returns c =
    let f = λ (p : ℕ × Indication). OutLine.Tell p.0 p.1 in
    let x = number c.in-Some.node.now in
    let y = read_told (words_in c.in-Some.rest.now) in
    let is = ap (mapped f) (sym c.in_ok-node.was) in
    let read : Reads (both pair x y) c.both.result = rw c.both.ensures (both_reads x y _ _ (plain _ _ c.read_number.ensures) c.read_told.ensures) in
    passed f (both pair x y) _ c.both.result _ (ap (word_and OutLine.Tell number read_told) c.in-Some.ensures ∙ both_form OutLine.Tell x y) read is
