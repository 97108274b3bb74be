use Rattle.tp_readers.proofs.Stores.{agree_there, hold_there}
use Rattle.tp_readers.proofs.stores_of_a_deployment_agree.Goals as goal

pub returns : goal.returns
returns c = record { agree = agree_there; hold = hold_there }
