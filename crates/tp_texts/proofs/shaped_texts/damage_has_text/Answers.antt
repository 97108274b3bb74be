-- The record has a text, since its parts are read back.
use Rattle.tp_texts.proofs.RecordTexts.{damage_text}
use Rattle.tp_texts.proofs.shaped_texts.damage_has_text.Goals as goal

pub returns : goal.returns
returns c = damage_text _ _ _ _ _ _ _ c.ranges.node.fits c.key_and_superior_read.ensures c.judgement_reads.ensures c.children_read.ensures
