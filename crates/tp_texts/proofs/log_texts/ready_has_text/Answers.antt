-- The record has a text where its key and its children are read back, and there alone.
use Rattle.std.proofs.Common.{refl}
use Rattle.tp_texts.proofs.RecordTexts.{ready_text, ready_key_given, ready_children_given, refused}
use Rattle.tp_texts.proofs.log_texts.ready_has_text.Goals as goal

pub returns-then-branch_key_reads : goal.returns-then-branch_key_reads
returns-then-branch_key_reads c = (
  λ yes. ready_text _ _ _ _ _ c.ranges.node.fits (c.if-branch_key_reads.ensures.reads refl) c.addr_reads.ensures (c.children_read.ensures.reads yes),
  λ text. c.children_read.ensures.only (ready_children_given _ _ _ _ _ text),
)

pub returns-else-branch_key_reads : goal.returns-else-branch_key_reads
returns-else-branch_key_reads c = (refused _ c.if-branch_key_reads.false, λ text. c.branch_key_reads.ensures.only (ready_key_given _ _ _ _ _ text))
