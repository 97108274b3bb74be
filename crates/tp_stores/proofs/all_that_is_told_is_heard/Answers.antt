use Rattle.tp_stores.proofs.Whole.{all_is_heard}
use Rattle.tp_stores.proofs.all_that_is_told_is_heard.Goals as goal

pub returns : goal.returns
returns c = all_is_heard
