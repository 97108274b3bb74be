use Rattle.std.proofs.Common.{◌∷◌, [], codes}
use Rattle.tp_model.specs.Words.{decimal, aaid_word, branch_word}
use Rattle.tp_model.specs.OutText.{dialogue_words, state_words}
use Rattle.tp_text_builder.proofs.Added.{adds_then}
use Rattle.tp_text_builder.proofs.Joined.{joined}
use Rattle.tp_transcript.proofs.HasWord.{dialogue_has, state_has}
use Rattle.tp_transcript.proofs.sent_words.put_sent.Goals as goal

pub returns-in-OpenAssoc : goal.returns-in-OpenAssoc
returns-in-OpenAssoc c =
    rw c.in-OpenAssoc.is (adds_then c.word.ensures (adds_then c.mark.ensures (adds_then c.space.ensures (rw c.bits.ensures.value at c.units.ensures))))

pub returns-in-AcceptAssoc : goal.returns-in-AcceptAssoc
returns-in-AcceptAssoc c =
    rw c.in-AcceptAssoc.is
    (adds_then c.word-in-AcceptAssoc.ensures
    (adds_then c.mark-in-AcceptAssoc.ensures
    (adds_then c.space-in-AcceptAssoc.ensures
    (adds_then c.mark-in-AcceptAssoc-2.ensures
    (adds_then c.space-in-AcceptAssoc-2.ensures (rw c.bits-in-AcceptAssoc.ensures.value at c.units-in-AcceptAssoc.ensures))))))

pub returns-in-ShutAssoc : goal.returns-in-ShutAssoc
returns-in-ShutAssoc c =
    rw c.in-ShutAssoc.is (adds_then c.word-in-ShutAssoc.ensures (adds_then c.mark-in-ShutAssoc.ensures (adds_then c.space-in-ShutAssoc.ensures c.maybe_mark.ensures)))

pub returns-in-OnAssoc : goal.returns-in-OnAssoc
returns-in-OnAssoc c =
    rw c.in-OnAssoc.is
    (joined (codes "data") (decimal c.in-OnAssoc.seq ∷ []) (dialogue_words c.in-OnAssoc.rec) (dialogue_has c.in-OnAssoc.rec)
    (adds_then c.word-in-OnAssoc.ensures c.next_number.ensures) c.space-in-OnAssoc.ensures c.put_dialogue.ensures)

pub returns-in-RecCommit : goal.returns-in-RecCommit
returns-in-RecCommit c = rw c.in-RecCommit.is c.put_kin-in-RecCommit.ensures

pub returns-in-RecReply : goal.returns-in-RecReply
returns-in-RecReply c =
    rw c.in-RecReply.is
    (joined (codes "rec-reply") (aaid_word c.in-RecReply.aaid ∷ branch_word c.in-RecReply.branch ∷ []) (state_words c.in-RecReply.state) (state_has c.in-RecReply.state)
    c.put_kin-in-RecReply.ensures c.space-in-RecReply.ensures c.put_state.ensures)
