use Rattle.tp_text_builder.proofs.Added.{adds_then}
use Rattle.tp_transcript.proofs.out_line.put_tree.Goals as goal

pub returns : goal.returns
returns c = adds_then c.word.ensures (adds_then c.aaid.ensures c.word-2.ensures)
