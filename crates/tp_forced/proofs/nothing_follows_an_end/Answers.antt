use Rattle.tp_forced.proofs.Forced.{ends_last}
use Rattle.tp_forced.proofs.nothing_follows_an_end.Goals as goal

pub returns : goal.returns
returns c = ends_last
