use Rattle.tp_stores.proofs.Agree.{stores_agree}
use Rattle.tp_stores.proofs.stores_agree.Goals as goal

pub returns : goal.returns
returns c = stores_agree
