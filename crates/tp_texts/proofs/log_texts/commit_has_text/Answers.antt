-- The record has a text where its key with the superior and its children are read back, and there alone.
use Rattle.std.proofs.Common.{refl}
use Rattle.tp_texts.proofs.RecordTexts.{commit_text, commit_key_given, commit_children_given, refused}
use Rattle.tp_texts.proofs.log_texts.commit_has_text.Goals as goal

pub returns-then-key_and_superior_read : goal.returns-then-key_and_superior_read
returns-then-key_and_superior_read c = (
  λ yes. commit_text _ _ _ _ _ c.ranges.node.fits (c.if-key_and_superior_read.ensures.reads refl) (c.children_read.ensures.reads yes),
  λ text. c.children_read.ensures.only (commit_children_given _ _ _ _ _ text),
)

pub returns-else-key_and_superior_read : goal.returns-else-key_and_superior_read
returns-else-key_and_superior_read c = (refused _ c.if-key_and_superior_read.false, λ text. c.key_and_superior_read.ensures.only (commit_key_given _ _ _ _ _ text))
