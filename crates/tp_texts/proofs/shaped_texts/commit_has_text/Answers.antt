-- The record has a text, since its parts are read back.
use Rattle.tp_texts.proofs.RecordTexts.{commit_text}
use Rattle.tp_texts.proofs.shaped_texts.commit_has_text.Goals as goal

pub returns : goal.returns
returns c = commit_text _ _ _ _ _ c.ranges.node.fits c.key_and_superior_read.ensures c.children_read.ensures
