use Rattle.tp_text_builder.proofs.Added.{adds_then}
use Rattle.tp_replay.proofs.playing.put_shown.Goals as goal

pub returns : goal.returns
returns c = adds_then (adds_then c.word.ensures c.put_line.ensures) (adds_then c.byte.ensures c.put_texts.ensures)
