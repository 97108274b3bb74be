use Rattle.tp_text_builder.proofs.Added.{adds_then}
use Rattle.tp_draw.proofs.label.put_log_label.Goals as goal

pub returns-in-Boot : goal.returns-in-Boot
returns-in-Boot c = rw c.in-Boot.is (adds_then c.word.ensures c.next_number.ensures)

pub returns-in-Heuristic : goal.returns-in-Heuristic
returns-in-Heuristic c = rw c.in-Heuristic.is (adds_then c.word-in-Heuristic.ensures c.outcome.ensures)
