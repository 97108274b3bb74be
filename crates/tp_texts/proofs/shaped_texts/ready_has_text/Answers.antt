-- The record has a text, since its parts are read back.
use Rattle.tp_texts.proofs.RecordTexts.{ready_text}
use Rattle.tp_texts.proofs.shaped_texts.ready_has_text.Goals as goal

pub returns : goal.returns
returns c = ready_text _ _ _ _ _ c.ranges.node.fits c.branch_key_reads.ensures c.addr_reads.ensures c.children_read.ensures
