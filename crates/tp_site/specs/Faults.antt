-- The faults of a node, of a keeper and of a log as those of a site.
use Rattle.std.specs.Prelude.{ℕ, Option, Some}
use Rattle.tp_journal.specs.declared.faults.ForceFault.{ForceFault}
use Rattle.tp_journal.specs.declared.faults.ForceFault.TheVariants as force
use Rattle.tp_model.specs.declared.transaction.TxFault.{TxFault}
use Rattle.tp_site.specs.declared.faults.SiteFault.{SiteFault}
use Rattle.tp_site.specs.declared.faults.LogFault.{LogFault}
use Rattle.tp_site.specs.declared.faults.StartFault.{StartFault}

abbrev pub site_fault : ForceFault → SiteFault
site_fault (force.Full size) = SiteFault.Full size
site_fault (force.DiskFault faults) = SiteFault.DiskFault faults
site_fault (force.Shut faults) = SiteFault.Shut faults
site_fault force.NoMemory = SiteFault.NoMemory

abbrev pub start_fault : ForceFault → StartFault
start_fault (force.Full size) = StartFault.Full size
start_fault (force.DiskFault faults) = StartFault.DiskFault faults
start_fault (force.Shut faults) = StartFault.Shut faults
start_fault force.NoMemory = StartFault.NoMemory

abbrev pub unfound : LogFault → StartFault
unfound (LogFault.Foreign at) = StartFault.Foreign at
unfound LogFault.BootsSpent = StartFault.BootsSpent
unfound LogFault.NoMemory = StartFault.NoMemory

abbrev pub fault_of : TxFault → SiteFault
fault_of (TxFault.Refused n) = SiteFault.Refused n
fault_of TxFault.NoMemory = SiteFault.NoMemory

-- a fault of the disk shuts the site
abbrev pub shut_by : ForceFault → Option ℕ → Option ℕ
shut_by (force.Full size) s = s
shut_by (force.DiskFault faults) s = Some faults
shut_by (force.Shut faults) s = s
shut_by force.NoMemory s = s
