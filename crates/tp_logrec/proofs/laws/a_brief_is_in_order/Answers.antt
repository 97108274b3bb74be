use Rattle.tp_logrec.proofs.BriefOrders.{brief_in_order}
use Rattle.tp_logrec.proofs.laws.a_brief_is_in_order.Goals as goal

pub returns : goal.returns
returns c = brief_in_order
