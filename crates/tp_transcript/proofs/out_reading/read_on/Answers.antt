use Rattle.std.proofs.Common.{◌≡◌, ℕ, rules, ap, ◌∙◌, Err, sym}
use Rattle.tp_records.specs.declared.dialogue.DialogueRecord.{DialogueRecord}
use Rattle.tp_model.specs.declared.out_line.SentWords.{SentWords}
use Rattle.tp_model.specs.LineReading.{words_in, both}
use Rattle.tp_schedule.specs.Answers.{pair, Reads}
use Rattle.tp_transcript.specs.OutWords.{long, word_and}
use Rattle.tp_transcript.specs.OutReading.{read_dialogue}
use Rattle.tp_schedule.proofs.lemmas.Readings.{passed, mapped, plain, both_reads, both_form}
use Rattle.tp_transcript.proofs.out_reading.read_on.Goals as goal

pub returns-in_err-seq : goal.returns-in_err-seq
returns-in_err-seq c =
    let f = λ (p : ℕ × DialogueRecord). SentWords.OnAssoc p.0 p.1 in
    let x = long c.in-Some.seq.now in
    let y = read_dialogue (words_in c.in-Some.rest.now) in
    let fault : c.from_residual.result ≡ Err c.in_err-seq.field-0.0 = search rules in
    let is = fault ∙ ap (mapped f) (sym c.in_err-seq.was) in
    let read : Reads (both pair x y) c.both.result = rw c.both.ensures (both_reads x y _ _ (plain _ _ c.read_long.ensures) c.read_dialogue.ensures) in
    passed f (both pair x y) _ c.both.result _ (ap (word_and SentWords.OnAssoc long read_dialogue) c.in-Some.ensures ∙ both_form SentWords.OnAssoc x y) read is

pub returns : goal.returns
returns c =
    let f = λ (p : ℕ × DialogueRecord). SentWords.OnAssoc p.0 p.1 in
    let x = long c.in-Some.seq.now in
    let y = read_dialogue (words_in c.in-Some.rest.now) in
    let is = ap (mapped f) (sym c.in_ok-seq.was) in
    let read : Reads (both pair x y) c.both.result = rw c.both.ensures (both_reads x y _ _ (plain _ _ c.read_long.ensures) c.read_dialogue.ensures) in
    passed f (both pair x y) _ c.both.result _ (ap (word_and SentWords.OnAssoc long read_dialogue) c.in-Some.ensures ∙ both_form SentWords.OnAssoc x y) read is
