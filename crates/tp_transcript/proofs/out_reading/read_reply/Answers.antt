use Rattle.std.proofs.Common.{◌≡◌, ◌∷◌, ℕ, List, rules, ap, ◌∙◌, Err, sym}
use Rattle.tp_names.specs.declared.identifiers.Aaid.{Aaid}
use Rattle.tp_names.specs.declared.identifiers.BranchId.{BranchId}
use Rattle.tp_records.specs.declared.peer.RecState.{RecState}
use Rattle.tp_model.specs.declared.out_line.SentWords.{SentWords}
use Rattle.tp_model.specs.LineReading.{words_in, both}
use Rattle.tp_schedule.specs.Answers.{pair, read_as}
use Rattle.tp_transcript.specs.OutWords.{aaid, branch, word_and}
use Rattle.tp_transcript.specs.OutReading.{read_state}
use Rattle.tp_schedule.proofs.lemmas.Readings.{passed_plain, mapped, both_plain, both_form}
use Rattle.tp_transcript.proofs.out_reading.read_reply.Goals as goal

pub returns-in_err-aaid : goal.returns-in_err-aaid
returns-in_err-aaid c =
    let f = λ (p : Aaid × (BranchId × RecState)). SentWords.RecReply p.0 p.1.0 p.1.1 in
    let x = aaid c.in-Some.aaid.now in
    let y = both pair (branch c.in-Some-next_word.branch.now) (read_state (words_in c.in-Some-next_word.rest.now)) in
    let reply : c.both-reply.result ≡ read_as y = rw (c.both-reply.ensures, c.read_branch.ensures, c.read_state.ensures) (both_plain (branch c.in-Some-next_word.branch.now) (read_state (words_in c.in-Some-next_word.rest.now))) in
    let fault : c.from_residual.result ≡ Err c.in_err-aaid.field-0.0 = search rules in
    let is = fault ∙ ap (mapped f) (sym c.in_err-aaid.was) in
    let read : c.both.result ≡ read_as (both pair x y) = rw (c.both.ensures, c.read_aaid.ensures, reply) (both_plain x y) in
    passed_plain f (both pair x y) _ c.both.result _ (ap (word_and (λ (a : Aaid) (p : BranchId × RecState). SentWords.RecReply a p.0 p.1) aaid (word_and pair branch read_state)) (c.in-Some.ensures ∙ ap (λ (t : List (List ℕ)). c.in-Some.aaid.now ∷ t) c.in-Some-next_word.ensures) ∙ both_form (λ (a : Aaid) (p : BranchId × RecState). SentWords.RecReply a p.0 p.1) x y) read is

pub returns : goal.returns
returns c =
    let f = λ (p : Aaid × (BranchId × RecState)). SentWords.RecReply p.0 p.1.0 p.1.1 in
    let x = aaid c.in-Some.aaid.now in
    let y = both pair (branch c.in-Some-next_word.branch.now) (read_state (words_in c.in-Some-next_word.rest.now)) in
    let reply : c.both-reply.result ≡ read_as y = rw (c.both-reply.ensures, c.read_branch.ensures, c.read_state.ensures) (both_plain (branch c.in-Some-next_word.branch.now) (read_state (words_in c.in-Some-next_word.rest.now))) in
    let is = ap (mapped f) (sym c.in_ok-aaid.was) in
    let read : c.both.result ≡ read_as (both pair x y) = rw (c.both.ensures, c.read_aaid.ensures, reply) (both_plain x y) in
    passed_plain f (both pair x y) _ c.both.result _ (ap (word_and (λ (a : Aaid) (p : BranchId × RecState). SentWords.RecReply a p.0 p.1) aaid (word_and pair branch read_state)) (c.in-Some.ensures ∙ ap (λ (t : List (List ℕ)). c.in-Some.aaid.now ∷ t) c.in-Some-next_word.ensures) ∙ both_form (λ (a : Aaid) (p : BranchId × RecState). SentWords.RecReply a p.0 p.1) x y) read is
