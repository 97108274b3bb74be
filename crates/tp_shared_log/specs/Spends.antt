-- What an answer takes from a share's stake, and what a share without its stake answers.
use Rattle.std.specs.Prelude.{ℕ, Option, Some, None}
use Rattle.tp_journal.specs.declared.faults.ForceFault.{ForceFault}
use Rattle.tp_shared_log.specs.declared.spent.Spent.{Spent}

-- out of memory spends nothing
abbrev pub spends : ForceFault → ℕ
spends ForceFault.NoMemory = 0
spends (ForceFault.Full size) = 1
spends (ForceFault.DiskFault n) = 1
spends (ForceFault.Shut n) = 1

abbrev pub spent_by : ForceFault → Option Spent
spent_by (ForceFault.Full size) = Some (Spent.Full size)
spent_by (ForceFault.DiskFault n) = Some (Spent.Shut n)
spent_by (ForceFault.Shut n) = Some (Spent.Shut n)
spent_by ForceFault.NoMemory = None

-- after a fault of the disk the log is shut
abbrev pub fault_of : Spent → ForceFault
fault_of (Spent.Full size) = ForceFault.Full size
fault_of (Spent.Shut n) = ForceFault.Shut n
