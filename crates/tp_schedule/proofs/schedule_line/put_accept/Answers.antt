use Rattle.tp_text_builder.proofs.Added.{adds_then}
use Rattle.tp_schedule.proofs.schedule_line.put_accept.Goals as goal

pub returns : goal.returns
returns c = adds_then c.word.ensures c.units.ensures
