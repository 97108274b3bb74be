use Rattle.tp_histories.proofs.marks.Separate.{separate_law}
use Rattle.tp_histories.proofs.marks.Ends.{alone_law}
use Rattle.tp_histories.proofs.ends_are_told_apart.Goals as goal

pub returns : goal.returns
returns c = record { arcs = separate_law; marks = alone_law }
