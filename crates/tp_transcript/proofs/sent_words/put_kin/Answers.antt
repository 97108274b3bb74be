use Rattle.tp_text_builder.proofs.Added.{adds_then}
use Rattle.tp_transcript.proofs.sent_words.put_kin.Goals as goal

pub returns : goal.returns
returns c = adds_then c.word.ensures (adds_then c.aaid.ensures (adds_then c.space.ensures c.branch-text.ensures))
