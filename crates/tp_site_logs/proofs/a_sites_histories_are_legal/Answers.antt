use Rattle.tp_site_logs.proofs.StaysInOrder.{are_legal}
use Rattle.tp_site_logs.proofs.a_sites_histories_are_legal.Goals as goal

pub returns : goal.returns
returns c = are_legal
