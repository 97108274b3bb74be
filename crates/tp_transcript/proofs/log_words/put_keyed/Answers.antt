use Rattle.tp_text_builder.proofs.Added.{adds_then}
use Rattle.tp_transcript.proofs.log_words.put_keyed.Goals as goal

pub returns : goal.returns
returns c = adds_then c.word.ensures (adds_then c.next_short.ensures (adds_then c.space.ensures c.put_key.ensures))
