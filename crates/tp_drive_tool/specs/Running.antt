-- A whole run: which events the input says, what workers do of them, what is written, and how it ends.
use Rattle.std.specs.Prelude.{ℕ, suc, ◌≡◌, ◌≤◌, ◌+◌, ◌⊎◌, ◌<◌, ◌++◌, true, false, Option, Some, List}
use Rattle.tp_outside.specs.Faults.{HasRisen}
use Rattle.tp_outside.specs.Story.{Story, seen}
use Rattle.tp_records.specs.declared.body.Event.{Event as Given}
use Rattle.tp_records.specs.declared.body.Output.{Output}
use Rattle.tp_logrec.specs.LogText.{Placed}
use Rattle.tp_logrec.specs.declared.record.LogVersion.{LogVersion}
use Rattle.tp_model.specs.Links.{greatest}
use Rattle.tp_model.specs.LogCommands.{Has, opened}
use Rattle.tp_model.specs.NodeRun.{boot_of, log_after}
use Rattle.tp_model.specs.NodeTranscript.{size_of, written_of}
use Rattle.tp_model.specs.Transcript.{Bad_input, At_limit, Done}
use Rattle.tp_journal.specs.Log.{most_bytes}
use Rattle.tp_serve.specs.Starting.{opening}
use Rattle.tp_streams.specs.Stops.{IsFaultOf, IsOfEvents}
use Rattle.tp_streams.specs.Written.{WritesPrefix}
use Rattle.tp_log_tools.specs.Readings.{IsFile}
use Rattle.tp_words.specs.declared.drive.Drive.{Drive}
use Rattle.tp_words.specs.DriveLine.{SaidDrive, is_drive, AsksDrive}
use Rattle.tp_drive_tool.specs.declared.status.Status.{Status}
use Rattle.tp_drive_tool.specs.Reading.{HasRead, EndsInput, input_of}
use Rattle.tp_drive_tool.specs.Driving.{HasDriven, NotDriven, IsSpentAt}

-- what the outside told before the run and after it: the story of the disk, the bytes left of the source, and those written to the sink
pub record Ran : Type 0 where
  pub told : Option Story
  pub story : Option Story
  pub left : Option (List ℕ)
  pub unread : Option (List ℕ)
  pub written : Option (List ℕ)
  pub output : Option (List ℕ)

-- ---- what is written

-- on Ok all of these bytes after those from before, and on WriteFault a prefix of them
abbrev pub Writes : List ℕ → Option (List ℕ) → Option (List ℕ) → Status → Type 0
Writes bytes written output Status.Ok = (before : List ℕ) → written ≡ Some before → output ≡ Some (before ++ bytes)
Writes bytes written output Status.Usage = ⊥
Writes bytes written output (Status.BadInput at why) = ⊥
Writes bytes written output (Status.Limit what at) = ⊥
Writes bytes written output (Status.Foreign at) = ⊥
Writes bytes written output (Status.ReadFault faults) = ⊥
Writes bytes written output (Status.WriteFault faults) = (before : List ℕ) → written ≡ Some before → WritesPrefix before bytes output
Writes bytes written output (Status.DiskFault faults) = ⊥
Writes bytes written output Status.NoMemory = Unit {0}
Writes bytes written output (Status.LogDiffers place receipt kept) = ⊥

-- with every other status nothing is
abbrev pub IsSilent : Status → Type 0
IsSilent Status.Ok = ⊥
IsSilent Status.Usage = Unit {0}
IsSilent (Status.BadInput at why) = Unit {0}
IsSilent (Status.Limit what at) = Unit {0}
IsSilent (Status.Foreign at) = Unit {0}
IsSilent (Status.ReadFault faults) = Unit {0}
IsSilent (Status.WriteFault faults) = ⊥
IsSilent (Status.DiskFault faults) = Unit {0}
IsSilent Status.NoMemory = Unit {0}
IsSilent (Status.LogDiffers place receipt kept) = Unit {0}

-- ---- what is done

-- All events of the input were done by so many workers, and their outputs written, in full or not: those that one thread gives, and
-- that `node` writes.
pub record DoesAll (d : Drive) (r : Ran) (status : Status) : Type 0 where
  pub events : List Given
  pub read : (bytes : List ℕ) → r.left ≡ Some bytes → HasRead bytes events r.unread
  pub outs : List (List Output)
  pub driven : (story : Story) → r.told ≡ Some story → IsFile (seen story) → HasDriven d.name d.workers events story r.story outs
  pub wrote : Writes (written_of outs) r.written r.output status

-- the input was read to its end, and not all of it was done
pub record DoesPart (d : Drive) (r : Ran) (status : Status) : Type 0 where
  pub events : List Given
  pub read : (bytes : List ℕ) → r.left ≡ Some bytes → HasRead bytes events r.unread
  pub stopped : (story : Story) → r.told ≡ Some story → IsFile (seen story) → NotDriven d.name d.workers events story r.story status

-- what is done, by how it ends; `same_disk` says that the disk is as it was
abbrev pub Does : Drive → Ran → Type 0 → Status → Type 0
Does d r same_disk Status.Ok = DoesAll d r Status.Ok
Does d r same_disk Status.Usage = ⊥
Does d r same_disk (Status.BadInput at why) = same_disk × ((bytes : List ℕ) → r.left ≡ Some bytes → EndsInput bytes (Bad_input at why))
Does d r same_disk (Status.Limit what at) =
    (same_disk × ((bytes : List ℕ) → r.left ≡ Some bytes → EndsInput bytes (At_limit what at))) ⊎ DoesPart d r (Status.Limit what at)
Does d r same_disk (Status.Foreign at) = DoesPart d r (Status.Foreign at)
Does d r same_disk (Status.ReadFault faults) = same_disk
Does d r same_disk (Status.WriteFault faults) = DoesAll d r (Status.WriteFault faults)
Does d r same_disk (Status.DiskFault faults) = DoesPart d r (Status.DiskFault faults)
Does d r same_disk Status.NoMemory = same_disk ⊎ DoesPart d r Status.NoMemory ⊎ DoesAll d r Status.NoMemory
Does d r same_disk (Status.LogDiffers place receipt kept) = ⊥

-- nothing is done
pub record Stays (same_source same_sink same_disk : Type 0) : Type 0 where
  pub source : same_source
  pub sink : same_sink
  pub disk : same_disk

-- what is done with words: they are no command line, or memory runs out before they are read; else what they ask for is done
pub data Answers (said : Option SaidDrive) (r : Ran) (status : Status) (same_source same_sink same_disk : Type 0) : Type 0 where
  Refused : is_drive said ≡ false → status ≡ Status.Usage → Stays same_source same_sink same_disk → Answers said r status same_source same_sink same_disk
  Unread : status ≡ Status.NoMemory → Stays same_source same_sink same_disk → Answers said r status same_source same_sink same_disk
  Asked : (d : Drive) → AsksDrive said d → Does d r same_disk status → Answers said r status same_source same_sink same_disk

-- ---- where nothing fails

-- The input is good to its end and within the limits. The disk has a log in order, which leaves a boot number and has room for all
-- records and one more of the greatest length.
pub record IsProvided (d : Drive) (r : Ran) : Type 0 where
  pub bytes : List ℕ
  pub left : r.left ≡ Some bytes
  pub good : (input_of bytes).ending ≡ Done
  pub story : Story
  pub told : r.told ≡ Some story
  pub file : IsFile (seen story)
  pub version : LogVersion
  pub listed : List Placed
  pub opens : opened (seen story) ≡ Has version listed
  pub boot : boot_of (opening d.name version listed) ≡ suc greatest → ⊥
  pub room : size_of version (log_after (opening d.name version listed) (input_of bytes).events) + 65538 ≤ most_bytes

-- all events were done, and their outputs written; or memory ran out
abbrev pub EndsWell : Status → Type 0
EndsWell Status.Ok = Unit {0}
EndsWell Status.Usage = ⊥
EndsWell (Status.BadInput at why) = ⊥
EndsWell (Status.Limit what at) = ⊥
EndsWell (Status.Foreign at) = ⊥
EndsWell (Status.ReadFault faults) = ⊥
EndsWell (Status.WriteFault faults) = ⊥
EndsWell (Status.DiskFault faults) = ⊥
EndsWell Status.NoMemory = Unit {0}
EndsWell (Status.LogDiffers place receipt kept) = ⊥

-- So a run ends, where its words are a command line and nothing outside fails: its input and its log are such, and no count rises.
abbrev pub Completes : Option SaidDrive → Ran → ℕ → ℕ → ℕ → ℕ → ℕ → ℕ → Status → Type 0
Completes said r read_old read_new write_old write_new disk_old disk_new status =
    is_drive said ≡ true → ((d : Drive) → AsksDrive said d → IsProvided d r) → (HasRisen read_old read_new → ⊥)
    → (HasRisen write_old write_new → ⊥) → (HasRisen disk_old disk_new → ⊥) → EndsWell status

-- ---- causes

-- what ends a run, by the counts of the source, of the sink and of the disk before and after it
abbrev pub IsEnding : ℕ → ℕ → ℕ → ℕ → ℕ → ℕ → Status → Type 0
IsEnding read_old read_new write_old write_new disk_old disk_new Status.Ok = Unit {0}
IsEnding read_old read_new write_old write_new disk_old disk_new Status.Usage = Unit {0}
IsEnding read_old read_new write_old write_new disk_old disk_new (Status.BadInput at why) = (0 < at) × IsOfEvents why
IsEnding read_old read_new write_old write_new disk_old disk_new (Status.Limit what at) = (0 < at) ⊎ IsSpentAt what at
IsEnding read_old read_new write_old write_new disk_old disk_new (Status.Foreign at) = Unit {0}
IsEnding read_old read_new write_old write_new disk_old disk_new (Status.ReadFault faults) = IsFaultOf faults read_old read_new
IsEnding read_old read_new write_old write_new disk_old disk_new (Status.WriteFault faults) = IsFaultOf faults write_old write_new
IsEnding read_old read_new write_old write_new disk_old disk_new (Status.DiskFault faults) = HasRisen disk_old disk_new
IsEnding read_old read_new write_old write_new disk_old disk_new Status.NoMemory = Unit {0}
IsEnding read_old read_new write_old write_new disk_old disk_new (Status.LogDiffers place receipt kept) = ⊥
