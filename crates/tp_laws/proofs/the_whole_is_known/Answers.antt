use Rattle.tp_history_state.proofs.whole.Whole.{whole_law}
use Rattle.tp_laws.proofs.the_whole_is_known.Goals as goal

pub returns : goal.returns
returns c = whole_law
