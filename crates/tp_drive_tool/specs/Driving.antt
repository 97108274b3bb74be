-- What workers do of the events of a site on the log of a disk: the outputs and the log that is left; or why not all was done.
-- What one thread puts out is said by tp_model, and how lanes part events between them by tp_drive. What `node` writes of the same
-- input, and the log that it leaves, is `node_transcript`.
use Rattle.std.specs.List.{AllByRecursion}
use Rattle.std.specs.Prelude.{ℕ, ◌≡◌, ◌<◌, ◌+◌, ◌⊎◌, Option, Some, None, List, [], ◌∷◌, ◌++◌, length}
use Rattle.tp_outside.specs.Faults.{HasRisen}
use Rattle.tp_outside.specs.Story.{Story, Synced, seen}
use Rattle.tp_records.specs.declared.body.Event.{Event as Given}
use Rattle.tp_records.specs.declared.body.Output.{Output}
use Rattle.tp_logrec.specs.declared.record.LogRec.{LogRec}
use Rattle.tp_logrec.specs.declared.record.LogVersion.{LogVersion}
use Rattle.tp_logrec.specs.LogText.{Placed}
use Rattle.tp_model.specs.declared.verdict.What.{What}
use Rattle.tp_model.specs.LogCommands.{Has, Is_foreign, opened, start_leaves}
use Rattle.tp_model.specs.NodeRun.{Opening, node_run, records_at}
use Rattle.tp_model.specs.NodeTranscript.{node_transcript, written_of}
use Rattle.tp_model.specs.Transcript.{Done}
use Rattle.tp_journal.specs.Log.{StandsFor, StandsForEither, most_bytes, place_behind}
use Rattle.tp_journal.specs.Records.{HasText, bodies_of}
use Rattle.tp_journal.specs.Told.{LeavesOnly, LeavesNow}
use Rattle.tp_shared_log.specs.Images.{StandsForFirst}
use Rattle.tp_log_tools.specs.Opening.{ReadsAs}
use Rattle.tp_drive.specs.declared.stop.Stop.{Stop as LaneStop}
use Rattle.tp_drive.specs.Begun.{booted}
use Rattle.tp_drive.specs.Drives.{IsPartDriven}
use Rattle.tp_drive.specs.Endings.{IsLeastStop}
use Rattle.tp_drive.specs.Woven.{IsWoven}
use Rattle.tp_serve.specs.Progress.{is_wide}
use Rattle.tp_serve.specs.Starting.{opening, IsUnopened, FailsBefore, IsLimitedBefore, IsOfStart}
use Rattle.tp_drive_tool.specs.declared.status.Status.{Status}
use Rattle.tp_drive_tool.specs.Reading.{input_of}

-- ---- the site

-- a site of that name began on the log that the file has, whose records are in order
pub record BeginsOn (name : List ℕ) (story : Story) (o : Opening) : Type 0 where
  pub version : LogVersion
  pub listed : List Placed
  pub opens : opened (seen story) ≡ Has version listed
  pub is : o ≡ opening name version listed

-- ---- the log that is left

-- the file is the log on which the site began, with its boot or without; or a log with the first of these records, the boot among them
abbrev pub IsMoment : Opening → List LogRec → List ℕ → Type 0
IsMoment o list file =
    StandsForEither (bodies_of (is_wide o.version) o.records) (bodies_of (is_wide o.version) (booted o)) file
    ⊎ StandsForFirst (length o.records + 1) (is_wide o.version) list file

-- each is read back from its bytes
abbrev pub HaveTexts : Opening → List LogRec → Type 0
HaveTexts o list = AllByRecursion (HasText (is_wide o.version)) list

-- A crash at any moment since the first sync has left such a log, and one now leaves all of these records; where the log is shut,
-- the first of them, the boot among them.
abbrev pub LeavesLog : Opening → List LogRec → Option ℕ → Story → Option Story → Type 0
LeavesLog o list None story new =
    LeavesOnly (IsMoment o list) (Some (Synced story)) new × LeavesNow (λ file. StandsFor file (bodies_of (is_wide o.version) list)) new × HaveTexts o list
LeavesLog o list (Some faults) story new =
    LeavesOnly (IsMoment o list) (Some (Synced story)) new × LeavesNow (StandsForFirst (length o.records + 1) (is_wide o.version) list) new × HaveTexts o list

-- ---- all events

-- The bytes of the outputs are those that `node` writes of the input, which it takes to its end; and of each node the log has the
-- records that the log of `node` has, in their order.
pub record IsAsNode (o : Opening) (bytes : List ℕ) (outs : List (List Output)) (list : List LogRec) : Type 0 where
  pub ends : (node_transcript o bytes).ending ≡ Done
  pub written : written_of outs ≡ (node_transcript o bytes).written
  pub records : (n : ℕ) → records_at n list ≡ records_at n (node_transcript o bytes).log

-- The outputs are those of one thread. After the boot the log has an interleaving of the records of each lane's own events. Of an input
-- that says these events and is then at its end, `node` writes the same.
pub record HasDriven (name : List ℕ) (workers : ℕ) (events : List Given) (story : Story) (new : Option Story) (outs : List (List Output)) : Type 0 where
  pub o : Opening
  pub begins : BeginsOn name story o
  pub one_thread : outs ≡ (node_run o events).outputs
  pub more : List LogRec
  pub woven : IsWoven o workers events more
  pub leaves : LeavesLog o (booted o ++ more) None story new
  pub as_node : (bytes : List ℕ) → input_of bytes ≡ record { events = events; ending = Done } → IsAsNode o bytes outs (booted o ++ more)

-- ---- not all events

-- some lanes stopped, and after the boot the log has what the lanes forced before
pub record HasPart (name : List ℕ) (workers : ℕ) (events : List Given) (story : Story) (new : Option Story) (shut : Option ℕ)
    (stops : List (Option LaneStop)) (list : List LogRec) : Type 0 where
  pub o : Opening
  pub begins : BeginsOn name story o
  pub part : IsPartDriven o workers events stops list
  pub leaves : LeavesLog o list shut story new

-- A record had no room in the log, and that event is the first at which a lane stopped for it. The log with one more record of the
-- greatest length would be too long.
pub record IsFullAt (name : List ℕ) (workers : ℕ) (events : List Given) (story : Story) (new : Option Story) (at : ℕ) : Type 0 where
  pub stops : List (Option LaneStop)
  pub list : List LogRec
  pub part : HasPart name workers events story new None stops list
  pub first : IsLeastStop stops at
  pub no_room : most_bytes < place_behind (bodies_of (is_wide part.o.version) list) + 4 + 65535

-- the disk failed under some lane
pub record IsShutBy (name : List ℕ) (workers : ℕ) (events : List Given) (story : Story) (new : Option Story) (faults : ℕ) : Type 0 where
  pub stops : List (Option LaneStop)
  pub list : List LogRec
  pub part : HasPart name workers events story new (Some faults) stops list

-- Memory ran out. The log was not opened, or the site did not start, and the log stays as it is; or after the boot the log has what the
-- lanes forced.
abbrev pub DrivesShort : List ℕ → ℕ → List Given → Story → Option Story → Type 0
DrivesShort name workers events story new =
    IsUnopened story new ⊎ ((shut : Option ℕ) × (stops : List (Option LaneStop)) × (list : List LogRec) × HasPart name workers events story new shut stops list)

-- why not all events were done, where the disk tells its story
abbrev pub NotDriven : List ℕ → ℕ → List Given → Story → Option Story → Status → Type 0
NotDriven name workers events story new Status.Ok = ⊥
NotDriven name workers events story new Status.Usage = ⊥
NotDriven name workers events story new (Status.BadInput at why) = ⊥
NotDriven name workers events story new (Status.Limit what at) =
    IsLimitedBefore name story new what at ⊎ (what ≡ What.Log) × IsFullAt name workers events story new at
NotDriven name workers events story new (Status.Foreign at) = (opened (seen story) ≡ Is_foreign at) × ReadsAs new (start_leaves (seen story))
NotDriven name workers events story new (Status.ReadFault faults) = ⊥
NotDriven name workers events story new (Status.WriteFault faults) = ⊥
NotDriven name workers events story new (Status.DiskFault faults) =
    (IsUnopened story new ⊎ FailsBefore name story new) ⊎ IsShutBy name workers events story new faults
NotDriven name workers events story new Status.NoMemory = DrivesShort name workers events story new
NotDriven name workers events story new (Status.LogDiffers place receipt kept) = ⊥

-- before the first frame the log or the boots are spent; in a frame it is the log alone
abbrev pub IsSpentAt : What → ℕ → Type 0
IsSpentAt what at = ((at ≡ 0) × IsOfStart what) ⊎ (what ≡ What.Log)

-- by the disk's counts before and after
abbrev pub IsDriveCause : ℕ → ℕ → Status → Type 0
IsDriveCause old new Status.Ok = ⊥
IsDriveCause old new Status.Usage = ⊥
IsDriveCause old new (Status.BadInput at why) = ⊥
IsDriveCause old new (Status.Limit what at) = IsSpentAt what at
IsDriveCause old new (Status.Foreign at) = Unit {0}
IsDriveCause old new (Status.ReadFault faults) = ⊥
IsDriveCause old new (Status.WriteFault faults) = ⊥
IsDriveCause old new (Status.DiskFault faults) = HasRisen old new
IsDriveCause old new Status.NoMemory = Unit {0}
IsDriveCause old new (Status.LogDiffers place receipt kept) = ⊥
