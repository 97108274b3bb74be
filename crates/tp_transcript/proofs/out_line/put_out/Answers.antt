use Rattle.std.proofs.Common.{◌∷◌, [], codes}
use Rattle.tp_model.specs.Words.{decimal, hex, aaid_word, outcome_word}
use Rattle.tp_model.specs.OutText.{log_words, indication_words, fate_word, numbers_word}
use Rattle.tp_text_builder.proofs.Added.{adds_then}
use Rattle.tp_text_builder.proofs.Joined.{joined}
use Rattle.tp_transcript.proofs.HasWord.{log_has, indication_has}
use Rattle.tp_transcript.proofs.Parts.{three_then, named_words}
use Rattle.tp_transcript.proofs.out_line.put_out.Goals as goal

pub returns-in-Echo : goal.returns-in-Echo
returns-in-Echo c = rw c.in-Echo.is (adds_then c.word.ensures (rw c.as_slice.ensures at c.put.ensures))

pub returns-in-Log : goal.returns-in-Log
returns-in-Log c = rw c.in-Log.is (named_words (codes "log ") c.in-Log.site (log_words c.in-Log.rec) (log_has c.in-Log.rec) c.put_named.ensures c.put_log.ensures)

pub returns-in-Tell : goal.returns-in-Tell
returns-in-Tell c =
    rw c.in-Tell.is
    (joined (codes "tell") (decimal c.in-Tell.node ∷ []) (indication_words c.in-Tell.indication) (indication_has c.in-Tell.indication)
    c.put_one-in-Tell.ensures c.space.ensures c.put_told.ensures)

pub returns-in-Stopped : goal.returns-in-Stopped
returns-in-Stopped c = rw c.in-Stopped.is (three_then (codes "stopped ") c.in-Stopped.site (32 ∷ []) (fate_word c.in-Stopped.fate) c.put_named-in-Stopped.ensures c.fate.ensures)

pub returns-in-Image : goal.returns-in-Image
returns-in-Image c = rw c.in-Image.is (three_then (codes "image ") c.in-Image.site (32 ∷ []) (hex c.in-Image.bytes) c.put_named-in-Image.ensures c.hex.ensures)

pub returns-in-Agreed : goal.returns-in-Agreed
returns-in-Agreed c =
    rw c.in-Agreed.is (three_then (codes "tree ") (aaid_word c.in-Agreed.aaid) (codes " agreed ") (outcome_word c.in-Agreed.outcome) c.put_tree.ensures c.outcome.ensures)

pub returns-in-Mixed : goal.returns-in-Mixed
returns-in-Mixed c =
    rw c.in-Mixed.is (three_then (codes "tree ") (aaid_word c.in-Mixed.aaid) (codes " mixed by ") (numbers_word c.in-Mixed.by) c.put_tree-in-Mixed.ensures c.numbers.ensures)
