use Rattle.tp_text_builder.proofs.Added.{adds_then}
use Rattle.tp_transcript.proofs.out_line.put_one.Goals as goal

pub returns : goal.returns
returns c = adds_then c.word.ensures c.next_short.ensures
