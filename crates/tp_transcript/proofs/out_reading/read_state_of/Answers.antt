use Rattle.std.proofs.Common.{◌≡◌, ℕ, rules, sym, ◌∙◌, Err, ap}
use Rattle.tp_model.specs.declared.out_line.PhaseWord.{PhaseWord}
use Rattle.tp_model.specs.declared.out_line.OutLine.{OutLine}
use Rattle.tp_model.specs.LineReading.{number, words_in, both}
use Rattle.tp_schedule.specs.Answers.{pair, read_as}
use Rattle.tp_transcript.specs.OutWords.{long, phase}
use Rattle.tp_schedule.proofs.lemmas.Readings.{passed_plain, mapped, both_plain, both_form}
use Rattle.tp_transcript.proofs.OutForms.{state_found}
use Rattle.tp_transcript.proofs.out_reading.read_state_of.Goals as goal

pub returns-in_err-node : goal.returns-in_err-node
returns-in_err-node c =
    let f = λ (p : (ℕ × PhaseWord) × ℕ). OutLine.State p.0.0 p.0.1 p.1 in
    let x = both pair (number c.in-Some.node.now) (phase c.in-Some.phase.now) in
    let y = long c.in-Some-only_word.kept.now in
    let shown : c.both-shown.result ≡ read_as x = rw (c.both-shown.ensures, c.read_number.ensures, c.read_phase.ensures) (both_plain (number c.in-Some.node.now) (phase c.in-Some.phase.now)) in
    let fault : c.from_residual.result ≡ Err c.in_err-node.field-0.0 = search rules in
    let is = fault ∙ ap (mapped f) (sym c.in_err-node.was) in
    let read : c.both.result ≡ read_as (both pair x y) = rw (c.both.ensures, shown, c.read_long.ensures) (both_plain x y) in
    passed_plain f (both pair x y) _ c.both.result _ (state_found (words_in c.args.rest.now) c.in-Some.node.now c.in-Some.phase.now c.in-Some.word.now c.in-Some-only_word.kept.now c.in-Some.rest.now c.in-Some.ensures c.in-Some-only_word.ensures (sym c.is_word.ensures ∙ c.if-not-is_word.false) ∙ both_form (λ (q : ℕ × PhaseWord) m. OutLine.State q.0 q.1 m) x y) read is

pub returns : goal.returns
returns c =
    let f = λ (p : (ℕ × PhaseWord) × ℕ). OutLine.State p.0.0 p.0.1 p.1 in
    let x = both pair (number c.in-Some.node.now) (phase c.in-Some.phase.now) in
    let y = long c.in-Some-only_word.kept.now in
    let shown : c.both-shown.result ≡ read_as x = rw (c.both-shown.ensures, c.read_number.ensures, c.read_phase.ensures) (both_plain (number c.in-Some.node.now) (phase c.in-Some.phase.now)) in
    let is = ap (mapped f) (sym c.in_ok-node.was) in
    let read : c.both.result ≡ read_as (both pair x y) = rw (c.both.ensures, shown, c.read_long.ensures) (both_plain x y) in
    passed_plain f (both pair x y) _ c.both.result _ (state_found (words_in c.args.rest.now) c.in-Some.node.now c.in-Some.phase.now c.in-Some.word.now c.in-Some-only_word.kept.now c.in-Some.rest.now c.in-Some.ensures c.in-Some-only_word.ensures (sym c.is_word.ensures ∙ c.if-not-is_word.false) ∙ both_form (λ (q : ℕ × PhaseWord) m. OutLine.State q.0 q.1 m) x y) read is
