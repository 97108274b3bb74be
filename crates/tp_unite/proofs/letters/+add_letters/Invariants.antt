use Rattle.std.proofs.Common.{length}
use Rattle.tp_unite.proofs.letters.+add_letters.Given as goal

abbrev pub decreases-add_letters : goal.decreases-add_letters
decreases-add_letters l = length l.outs.now
