-- The passages of a transaction as the code has them.
use Rattle.tp_model.specs.Node.{Passage as PassageValue, Stays, Enters, Falls, Falls_at_once, Commits, Rolls_back, Leaves}
use Rattle.tp_node.specs.declared.passage.Passage.{Passage}

abbrev pub passage_of : Passage → PassageValue
passage_of Passage.Stays = Stays
passage_of Passage.Enters = Enters
passage_of Passage.Falls = Falls
passage_of Passage.FallsAtOnce = Falls_at_once
passage_of Passage.Commits = Commits
passage_of Passage.RollsBack = Rolls_back
passage_of Passage.Leaves = Leaves
