use Rattle.tp_history_state.proofs.orders.Owes.{owes_agrees_law}
use Rattle.tp_history_state.proofs.orders.Own.{own_agrees_law}
use Rattle.tp_history_state.proofs.orders.Rolled.{superior_rolled_agrees_law}
use Rattle.tp_history_state.proofs.orders_are_known.Goals as goal

pub returns : goal.returns
returns c = record { owes = owes_agrees_law; rolled = superior_rolled_agrees_law; own = own_agrees_law }
