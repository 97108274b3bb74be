use Rattle.std.proofs.Common.{◌≡◌, ℕ, rules, ap, ◌∙◌, Err, sym}
use Rattle.tp_model.specs.declared.out_line.SentWords.{SentWords}
use Rattle.tp_model.specs.declared.out_line.OutLine.{OutLine}
use Rattle.tp_model.specs.LineReading.{number, words_in, both}
use Rattle.tp_schedule.specs.Answers.{pair, read_as, Reads}
use Rattle.tp_transcript.specs.OutReading.{read_sent, read_send}
use Rattle.tp_schedule.proofs.lemmas.Readings.{passed, mapped, plain, both_plain, both_reads, both_form}
use Rattle.tp_transcript.proofs.out_reading.read_sent_line.Goals as goal

pub returns-in_err-frame : goal.returns-in_err-frame
returns-in_err-frame c =
    let f = λ (p : ((ℕ × ℕ) × ℕ) × SentWords). OutLine.Send p.0.0.0 p.0.0.1 p.0.1 p.1 in
    let x = both pair (both pair (number c.in-Some.frame.now) (number c.in-Some.from.now)) (number c.in-Some.to.now) in
    let y = read_sent (words_in c.in-Some.rest.now) in
    let front : c.both-front.result ≡ read_as (both pair (number c.in-Some.frame.now) (number c.in-Some.from.now)) = rw (c.both-front.ensures, c.read_number.ensures, c.read_number-2.ensures) (both_plain (number c.in-Some.frame.now) (number c.in-Some.from.now)) in
    let ends : c.both-ends.result ≡ read_as x = rw (c.both-ends.ensures, front, c.read_number-3.ensures) (both_plain (both pair (number c.in-Some.frame.now) (number c.in-Some.from.now)) (number c.in-Some.to.now)) in
    let fault : c.from_residual.result ≡ Err c.in_err-frame.field-0.0 = search rules in
    let is = fault ∙ ap (mapped f) (sym c.in_err-frame.was) in
    let read : Reads (both pair x y) c.both.result = rw c.both.ensures (both_reads x y _ _ (plain _ _ ends) c.read_sent.ensures) in
    passed f (both pair x y) _ c.both.result _ (ap read_send c.in-Some.ensures ∙ both_form (λ (q : (ℕ × ℕ) × ℕ) r. OutLine.Send q.0.0 q.0.1 q.1 r) x y) read is

pub returns : goal.returns
returns c =
    let f = λ (p : ((ℕ × ℕ) × ℕ) × SentWords). OutLine.Send p.0.0.0 p.0.0.1 p.0.1 p.1 in
    let x = both pair (both pair (number c.in-Some.frame.now) (number c.in-Some.from.now)) (number c.in-Some.to.now) in
    let y = read_sent (words_in c.in-Some.rest.now) in
    let front : c.both-front.result ≡ read_as (both pair (number c.in-Some.frame.now) (number c.in-Some.from.now)) = rw (c.both-front.ensures, c.read_number.ensures, c.read_number-2.ensures) (both_plain (number c.in-Some.frame.now) (number c.in-Some.from.now)) in
    let ends : c.both-ends.result ≡ read_as x = rw (c.both-ends.ensures, front, c.read_number-3.ensures) (both_plain (both pair (number c.in-Some.frame.now) (number c.in-Some.from.now)) (number c.in-Some.to.now)) in
    let is = ap (mapped f) (sym c.in_ok-frame.was) in
    let read : Reads (both pair x y) c.both.result = rw c.both.ensures (both_reads x y _ _ (plain _ _ ends) c.read_sent.ensures) in
    passed f (both pair x y) _ c.both.result _ (ap read_send c.in-Some.ensures ∙ both_form (λ (q : (ℕ × ℕ) × ℕ) r. OutLine.Send q.0.0 q.0.1 q.1 r) x y) read is
