use Rattle.tp_history_state.proofs.links.ArcOrder.{asked_law, order_law}
use Rattle.tp_history_state.proofs.order_is_known.Goals as goal

pub returns : goal.returns
returns c = record { asked = asked_law; order = order_law }
