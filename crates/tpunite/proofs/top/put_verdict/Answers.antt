use Rattle.tp_text_builder.proofs.Added.{adds_then}
use Rattle.tpunite.proofs.top.put_verdict.Goals as goal

pub returns-in-NotPlaced : goal.returns-in-NotPlaced
returns-in-NotPlaced c = rw c.in-NotPlaced.is (adds_then c.word-in-NotPlaced.ensures c.next_number.ensures)

pub returns-in-NotCarried : goal.returns-in-NotCarried
returns-in-NotCarried c = rw c.in-NotCarried.is (adds_then c.word-in-NotCarried.ensures c.next_number-in-NotCarried.ensures)
