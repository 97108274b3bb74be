use Rattle.tp_text_builder.proofs.Added.{adds_then}
use Rattle.tp_transcript.proofs.out_line.put_state.Goals as goal

pub returns : goal.returns
returns c = adds_then c.word.ensures (adds_then c.next_short.ensures (adds_then c.space.ensures (adds_then c.phase.ensures (adds_then c.word-2.ensures c.next_number.ensures))))
