use Rattle.tp_laws.proofs.Promises.{all_promised}
use Rattle.tp_laws.proofs.all_that_is_promised_is_kept.Goals as goal

pub returns : goal.returns
returns c = all_promised
