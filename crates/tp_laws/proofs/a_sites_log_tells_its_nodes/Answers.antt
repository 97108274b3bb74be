use Rattle.tp_site_logs.proofs.EveryLog.{disks_tell}
use Rattle.tp_laws.proofs.a_sites_log_tells_its_nodes.Goals as goal

pub returns : goal.returns
returns c = disks_tell
