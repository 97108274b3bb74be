use Rattle.tp_history_state.proofs.whole.Parts.{whole}
use Rattle.tp_history_state.proofs.parts_are_the_whole.Goals as goal

pub returns : goal.returns
returns c = whole
