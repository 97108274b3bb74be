use Rattle.tp_site_logs.proofs.NextStart.{disks_start, boots_most}
use Rattle.tp_laws.proofs.a_site_starts_again_on_its_log.Goals as goal

pub returns : goal.returns
returns c = record { starts = disks_start; stopped = boots_most }
