use Rattle.tp_text_builder.proofs.Added.{adds_then}
use Rattle.tp_schedule.proofs.schedule_line.put_two.Goals as goal

pub returns : goal.returns
returns c = adds_then c.word.ensures (adds_then c.next_short.ensures c.next_short-2.ensures)
