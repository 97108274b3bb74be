-- What is left of a log by how `compact` and `migrate` end.
use Rattle.std.specs.Prelude.{ℕ, ◌≡◌, ◌<◌, ◌≤◌, Option, List, length}
use Rattle.tp_outside.specs.Story.{Story}
use Rattle.tp_logrec.specs.declared.record.LogVersion.{LogVersion}
use Rattle.tp_logrec.specs.LogText.{Placed}
use Rattle.tp_model.specs.declared.verdict.What.{What}
use Rattle.tp_model.specs.LogCommands.{Has, Is_foreign, opened, compacted, migrated, start_leaves}
use Rattle.tp_journal.specs.declared.faults.CompactFault.{CompactFault}
use Rattle.tp_journal.specs.declared.faults.ForceFault.{ForceFault}
use Rattle.tp_journal.specs.Log.{most_bytes}
use Rattle.tp_journal.specs.Told.{IsOn}
use Rattle.tp_streams.specs.declared.stop.Stop.{Stop}
use Rattle.tp_streams.specs.Stops.{IsFaultOf}
use Rattle.tp_log_tools.specs.Opening.{ReadsAs}

-- The file is a log in order, and the disk has its brief in the same version, to the byte.
pub record Compacts (file : List ℕ) (left : Option Story) : Type 0 where
  pub version : LogVersion
  pub listed : List Placed
  pub opens : opened file ≡ Has version listed
  pub disk : IsOn left (compacted version listed)

-- The disk has its brief in version 2, which is no longer than a log may be.
pub record Migrates (file : List ℕ) (left : Option Story) : Type 0 where
  pub version : LogVersion
  pub listed : List Placed
  pub opens : opened file ≡ Has version listed
  pub room : length (migrated listed) ≤ most_bytes
  pub disk : IsOn left (migrated listed)

-- It would be longer, and the disk has what a start leaves.
pub record IsTooLong (file : List ℕ) (left : Option Story) : Type 0 where
  pub version : LogVersion
  pub listed : List Placed
  pub opens : opened file ≡ Has version listed
  pub long : most_bytes < length (migrated listed)
  pub disk : IsOn left (start_leaves file)

-- ---- compact

abbrev pub compacted_by : CompactFault → Stop
compacted_by (CompactFault.DiskFault faults) = Stop.DiskFault faults
compacted_by (CompactFault.Shut faults) = Stop.DiskFault faults
compacted_by CompactFault.NoMemory = Stop.NoMemory

abbrev pub StopsCompact : List ℕ → Option Story → Stop → Type 0
StopsCompact file left (Stop.BadInput at why) = ⊥
StopsCompact file left (Stop.Limit what at) = ⊥
StopsCompact file left (Stop.Foreign at) = (opened file ≡ Is_foreign at) × ReadsAs left (start_leaves file)
StopsCompact file left (Stop.ReadFault faults) = ⊥
StopsCompact file left (Stop.WriteFault faults) = ⊥
StopsCompact file left (Stop.DiskFault faults) = Unit {0}
StopsCompact file left Stop.NoMemory = Unit {0}

-- by the disk's counts before and after
abbrev pub IsCompactStop : ℕ → ℕ → Stop → Type 0
IsCompactStop old now (Stop.BadInput at why) = ⊥
IsCompactStop old now (Stop.Limit what at) = ⊥
IsCompactStop old now (Stop.Foreign at) = Unit {0}
IsCompactStop old now (Stop.ReadFault faults) = ⊥
IsCompactStop old now (Stop.WriteFault faults) = ⊥
IsCompactStop old now (Stop.DiskFault faults) = IsFaultOf faults old now
IsCompactStop old now Stop.NoMemory = Unit {0}

-- ---- migrate

abbrev pub migrated_by : ForceFault → Stop
migrated_by (ForceFault.Full size) = Stop.Limit What.Log 0
migrated_by (ForceFault.DiskFault faults) = Stop.DiskFault faults
migrated_by (ForceFault.Shut faults) = Stop.DiskFault faults
migrated_by ForceFault.NoMemory = Stop.NoMemory

abbrev pub StopsMigrate : List ℕ → Option Story → Stop → Type 0
StopsMigrate file left (Stop.BadInput at why) = ⊥
StopsMigrate file left (Stop.Limit what at) = IsTooLong file left
StopsMigrate file left (Stop.Foreign at) = (opened file ≡ Is_foreign at) × ReadsAs left (start_leaves file)
StopsMigrate file left (Stop.ReadFault faults) = ⊥
StopsMigrate file left (Stop.WriteFault faults) = ⊥
StopsMigrate file left (Stop.DiskFault faults) = Unit {0}
StopsMigrate file left Stop.NoMemory = Unit {0}

-- by the disk's counts before and after
abbrev pub IsMigrateStop : ℕ → ℕ → Stop → Type 0
IsMigrateStop old now (Stop.BadInput at why) = ⊥
IsMigrateStop old now (Stop.Limit what at) = (what ≡ What.Log) × (at ≡ 0)
IsMigrateStop old now (Stop.Foreign at) = Unit {0}
IsMigrateStop old now (Stop.ReadFault faults) = ⊥
IsMigrateStop old now (Stop.WriteFault faults) = ⊥
IsMigrateStop old now (Stop.DiskFault faults) = IsFaultOf faults old now
IsMigrateStop old now Stop.NoMemory = Unit {0}
