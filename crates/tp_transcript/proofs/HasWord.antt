-- No record and no indication is written without a word.
use Rattle.std.proofs.Common.{◌≡◌, true, refl}
use Rattle.tp_records.specs.declared.dialogue.DialogueRecord.{DialogueRecord}
use Rattle.tp_records.specs.declared.indication.Indication.{Indication}
use Rattle.tp_records.specs.declared.peer.RecState.{RecState}
use Rattle.tp_model.specs.declared.out_line.LogWords.{LogWords}
use Rattle.tp_model.specs.declared.out_line.SentWords.{SentWords}
use Rattle.tp_model.specs.OutText.{log_words, dialogue_words, state_words, sent_words, indication_words}
use Rattle.tp_text_builder.proofs.Joined.{has_word}

pub log_has : (r : LogWords) → has_word (log_words r) ≡ true
log_has (LogWords.Boot n) = refl
log_has _ = refl

pub dialogue_has : (r : DialogueRecord) → has_word (dialogue_words r) ≡ true
dialogue_has DialogueRecord.UError = refl
dialogue_has _ = refl

pub state_has : (s : RecState) → has_word (state_words s) ≡ true
state_has RecState.Commit = refl
state_has _ = refl

pub sent_has : (r : SentWords) → has_word (sent_words r) ≡ true
sent_has (SentWords.OpenAssoc x u) = refl
sent_has _ = refl

pub indication_has : (i : Indication) → has_word (indication_words i) ≡ true
indication_has Indication.Prepare = refl
indication_has _ = refl
