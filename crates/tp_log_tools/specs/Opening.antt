-- A log that is opened: started, with its records in order.
use Rattle.std.specs.Prelude.{ℕ, ◌≡◌, ◌⊎◌, Bool, Option, Some, List}
use Rattle.tp_outside.specs.Story.{Story, Synced, seen}
use Rattle.tp_logrec.specs.declared.record.LogRec.{LogRec}
use Rattle.tp_logrec.specs.LogText.{IsLog}
use Rattle.tp_model.specs.LogCommands.{Has, Is_foreign, opened, start_leaves}
use Rattle.tp_journal.specs.declared.faults.StartFault.{StartFault}
use Rattle.tp_journal.specs.Records.{version_of, placed}
use Rattle.tp_journal.specs.Told.{IsOn, LeavesOnly}
use Rattle.tp_streams.specs.declared.stop.Stop.{Stop}
use Rattle.tp_streams.specs.Stops.{IsFaultOf}
use Rattle.tp_log_tools.specs.Readings.{as_placed}

-- the disk goes on with its story, and reads give these bytes
abbrev pub ReadsAs : Option Story → List ℕ → Type 0
ReadsAs new bytes = (t : Story) × (new ≡ Some t) × (seen t ≡ bytes)

-- ---- at every moment

-- Nothing was done; or from the first sync on a crash at any moment leaves only what has P.
abbrev pub HoldsThroughout : (List ℕ → Type 0) → Story → Option Story → Type 0
HoldsThroughout P old new = (new ≡ Some old) ⊎ LeavesOnly P (Some (Synced old)) new

-- ---- how a start ends

-- the records stand as they are read, and the disk has what a start leaves
pub record Opens (file : List ℕ) (wide : Bool) (rs : List LogRec) (new : Option Story) : Type 0 where
  pub opens : opened file ≡ Has (version_of wide) (as_placed (placed wide rs))
  pub left : IsOn new (start_leaves file)

-- they are those of the log, and a crash at any moment since the first sync leaves a log of them
pub record LeavesLog (old : Story) (rs list : List LogRec) (new : Option Story) : Type 0 where
  pub same : list ≡ rs
  pub moments : LeavesOnly (λ c. IsLog c rs) (Some (Synced old)) new

abbrev pub stopped_by : StartFault → Stop
stopped_by (StartFault.Foreign at) = Stop.Foreign at
stopped_by (StartFault.DiskFault faults) = Stop.DiskFault faults
stopped_by StartFault.NoMemory = Stop.NoMemory

-- why a log is not opened
abbrev pub StopsOpening : List ℕ → Option Story → Stop → Type 0
StopsOpening file new (Stop.BadInput at why) = ⊥
StopsOpening file new (Stop.Limit what at) = ⊥
StopsOpening file new (Stop.Foreign at) = (opened file ≡ Is_foreign at) × ReadsAs new (start_leaves file)
StopsOpening file new (Stop.ReadFault faults) = ⊥
StopsOpening file new (Stop.WriteFault faults) = ⊥
StopsOpening file new (Stop.DiskFault faults) = Unit {0}
StopsOpening file new Stop.NoMemory = Unit {0}

-- by the disk's counts before and after
abbrev pub IsDiskStop : ℕ → ℕ → Stop → Type 0
IsDiskStop old new (Stop.BadInput at why) = ⊥
IsDiskStop old new (Stop.Limit what at) = ⊥
IsDiskStop old new (Stop.Foreign at) = Unit {0}
IsDiskStop old new (Stop.ReadFault faults) = ⊥
IsDiskStop old new (Stop.WriteFault faults) = ⊥
IsDiskStop old new (Stop.DiskFault faults) = IsFaultOf faults old new
IsDiskStop old new Stop.NoMemory = Unit {0}
