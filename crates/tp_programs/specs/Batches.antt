-- Whatever a crash leaves where a run of `tpdrive` has ended, however that was, is what one process of its site leaves: the workers are one
-- process, to which the events were given in the order of their records.
use Rattle.std.specs.Prelude.{ℕ, ◌≡◌, ◌⊎◌, ◌<◌, true, Some, List, ◌++◌}
use Rattle.tp_outside.specs.Story.{Story, seen}
use Rattle.tp_records.specs.declared.body.Event.{Event as Given}
use Rattle.tp_logrec.specs.declared.record.LogVersion.{LogVersion}
use Rattle.tp_logrec.specs.LogText.{Placed, recs}
use Rattle.tp_model.specs.LogCommands.{Has, opened}
use Rattle.tp_model.specs.NodeRun.{node_run}
use Rattle.tp_model.specs.NodeTranscript.{written_of}
use Rattle.tp_model.specs.Lanes.{lane, outputs_in}
use Rattle.tp_journal.specs.Told.{LeavesNow}
use Rattle.tp_log_tools.specs.Readings.{IsFile}
use Rattle.tp_serve.specs.Starting.{IsUnopened}
use Rattle.tp_words.specs.declared.drive.Drive.{Drive}
use Rattle.tp_drive_tool.specs.declared.status.Status.{Status}
use Rattle.tp_drive_tool.specs.Reading.{HasRead}
use Rattle.tp_drive_tool.specs.Running.{Ran, Writes, Does}
use Rattle.tp_briefs.specs.Starts.{on}
use Rattle.tp_processes.specs.Processes.{Process, IsProcess}

-- ---- what is left

-- a process of the site found and left these bytes; of each worker it was given the first of its events, in their order
pub record IsPartLeft (name : List ℕ) (workers : ℕ) (events : List Given) (found left : List ℕ) : Type 0 where
  pub process : Process
  pub is : IsProcess name process
  pub from : process.found ≡ found
  pub to : process.left ≡ left
  pub lanes : (i : ℕ) → i < workers → (later : List Given) × (lane events i workers ≡ lane process.given i workers ++ later)

-- it was given all events, those of each worker in their order, and they give the outputs that one thread gives for them
pub record IsWholeLeft (name : List ℕ) (workers : ℕ) (events : List Given) (version : LogVersion) (listed : List Placed) (found left : List ℕ) : Type 0 where
  pub process : Process
  pub is : IsProcess name process
  pub from : process.found ≡ found
  pub to : process.left ≡ left
  pub begun : process.begun ≡ true
  pub lanes : (i : ℕ) → i < workers → lane process.given i workers ≡ lane events i workers
  pub outputs : (i : ℕ) → i < workers
      → outputs_in i workers process.given (node_run (on name version (recs listed)) process.given).outputs
      ≡ outputs_in i workers events (node_run (on name version (recs listed)) events).outputs

-- ---- a run

-- the file is one on which a process may start
pub record IsBatchStart (r : Ran) (story : Story) (version : LogVersion) (listed : List Placed) : Type 0 where
  pub told : r.told ≡ Some story
  pub file : IsFile (seen story)
  pub opens : opened (seen story) ≡ Has version listed

-- the events are those of the input, and all that was written was written of them
pub record IsWholeBatch (d : Drive) (r : Ran) (status : Status) (story : Story) (version : LogVersion) (listed : List Placed) : Type 0 where
  pub events : List Given
  pub read : (bytes : List ℕ) → r.left ≡ Some bytes → HasRead bytes events r.unread
  pub wrote : Writes (written_of (node_run (on d.name version (recs listed)) events).outputs) r.written r.output status
  pub leaves : LeavesNow (IsWholeLeft d.name d.workers events version listed (seen story)) r.story

-- not all of them happened
pub record IsPartBatch (d : Drive) (r : Ran) (story : Story) : Type 0 where
  pub events : List Given
  pub read : (bytes : List ℕ) → r.left ≡ Some bytes → HasRead bytes events r.unread
  pub leaves : LeavesNow (IsPartLeft d.name d.workers events (seen story)) r.story

-- the disk was not touched, or the log was not opened, and stays as it is
abbrev pub IsIdleBatch : Ran → Story → Type 0
IsIdleBatch r story = (r.story ≡ r.told) ⊎ IsUnopened story r.story

-- where memory runs out, it may be so after all events have happened
abbrev pub IsBatch : Drive → Ran → Status → Story → LogVersion → List Placed → Type 0
IsBatch d r Status.Ok story version listed = IsWholeBatch d r Status.Ok story version listed
IsBatch d r (Status.WriteFault faults) story version listed = IsWholeBatch d r (Status.WriteFault faults) story version listed
IsBatch d r Status.NoMemory story version listed = IsIdleBatch r story ⊎ IsPartBatch d r story ⊎ IsWholeBatch d r Status.NoMemory story version listed
IsBatch d r (Status.LogDiffers place receipt kept) story version listed = ⊥
IsBatch d r status story version listed = IsIdleBatch r story ⊎ IsPartBatch d r story

-- by what `run_drive` does where its disk is as it was, or else
abbrev pub BatchIsAProcess : Type 0
BatchIsAProcess =
    (d : Drive) (r : Ran) (status : Status) (story : Story) (version : LogVersion) (listed : List Placed)
    → Does d r (r.story ≡ r.told) status → IsBatchStart r story version listed
    → IsBatch d r status story version listed
