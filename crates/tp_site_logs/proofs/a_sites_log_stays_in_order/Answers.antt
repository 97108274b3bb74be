use Rattle.tp_site_logs.proofs.StaysInOrder.{stays_in_order}
use Rattle.tp_site_logs.proofs.a_sites_log_stays_in_order.Goals as goal

pub returns : goal.returns
returns c = stays_in_order
