use Rattle.tp_names.proofs.Draws.{drawn_once, drawn_apart}
use Rattle.tp_names.proofs.counter.marks_are_drawn_once.Goals as goal

pub returns : goal.returns
returns c = record { one = drawn_once; two = drawn_apart }
