use Rattle.std.proofs.Common.{◌∷◌, [], codes}
use Rattle.tp_model.specs.Words.{aaid_word, branch_word, holder_word}
use Rattle.tp_text_builder.proofs.Added.{adds_then}
use Rattle.tp_transcript.proofs.Parts.{next_word}
use Rattle.tp_transcript.proofs.sent_words.put_dialogue.Goals as goal

pub returns-in-UserData : goal.returns-in-UserData
returns-in-UserData c = rw c.in-UserData.is (adds_then c.word-in-UserData.ensures c.octets.ensures)

pub returns-in-Begin : goal.returns-in-Begin
returns-in-Begin c = rw c.in-Begin.is (next_word (codes "begin") (aaid_word c.in-Begin.aaid ∷ branch_word c.in-Begin.branch ∷ []) (holder_word c.in-Begin.holder) c.put_kin.ensures c.space.ensures c.holder.ensures)
