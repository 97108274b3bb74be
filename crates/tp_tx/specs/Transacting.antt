-- What a run of a face on the log of a disk does, given the frames of a source: which events happen, what is written, what a crash
-- leaves of the log, and how it ends.
use Rattle.std.specs.Prelude.{ℕ, ◌≡◌, ◌⊎◌, Option, Some, option_map, List, ◌++◌, length, Result, Ok, Err}
use Rattle.tp_outside.specs.Story.{Story, Synced, seen}
use Rattle.tp_records.specs.declared.body.Event.{Event as Given}
use Rattle.tp_logrec.specs.LogText.{Placed}
use Rattle.tp_logrec.specs.declared.record.LogVersion.{LogVersion}
use Rattle.tp_model.specs.LogCommands.{Has, Is_foreign, opened, start_leaves}
use Rattle.tp_model.specs.NodeTranscript.{NodeTranscript}
use Rattle.tp_journal.specs.Keeping.{Standing}
use Rattle.tp_journal.specs.Told.{LeavesOnly, LeavesNow}
use Rattle.tp_streams.specs.declared.stop.Stop.{Stop}
use Rattle.tp_log_tools.specs.Readings.{IsFile}
use Rattle.tp_log_tools.specs.Opening.{ReadsAs}
use Rattle.tp_serve.specs.Images.{IsNodeImage}
use Rattle.tp_serve.specs.Starting.{opening, NotStarted, IsLimitedBefore, FailsBefore}
use Rattle.tp_serve.specs.Serving.{Ran, IsUntouched, IsIdle, HasWritten, Transcribes}
use Rattle.tx_face.specs.Face.{Face}
use Rattle.tp_tx.specs.Transcript.{TxTranscript, tx_transcript, first_events}
use Rattle.tp_tx.specs.Progress.{IsRunning}
use Rattle.tp_tx.specs.Running.{HasRead}

-- what is written, how it ends, and the log that is left
abbrev pub told_by : TxTranscript → NodeTranscript
told_by t = record { written = t.written; ending = t.ending; log = t.log }

-- The file is a log in order, on which the site began, and these events happened, the first of which declared the face's node. Of
-- those after them no byte was written, and their records may stand, or not, where the disk failed.
pub record RunsOn (name : List ℕ) (r : Ran) (result : Result (Unit {0}) Stop) : Type 0 where
  pub version : LogVersion
  pub listed : List Placed
  pub opens : opened (seen r.told) ≡ Has version listed
  pub events : List Given
  pub next : List Given
  -- the answers to the frames that asked for them
  pub bytes : List ℕ
  pub read : (input : List ℕ) → r.left ≡ Some input → HasRead (opening name version listed) input events next bytes r.unread result
  pub wrote : (before : List ℕ) → r.written ≡ Some before → HasWritten before bytes r.output result
  -- as the definitions say
  pub transcribes : (input before : List ℕ) → r.left ≡ Some input → r.written ≡ Some before
      → Transcribes (told_by (tx_transcript (opening name version listed) input)) before r result
  -- A crash at any moment since the first sync leaves the log of the run on some of the events, or the one on which the site
  -- began; and one at the end leaves one with all that happened, whatever a byte was written of.
  pub moments : LeavesOnly (IsNodeImage (opening name version listed) (events ++ next) 0) (Some (Synced r.told)) r.story
  pub last : LeavesNow (IsNodeImage (opening name version listed) (events ++ next) (length events)) r.story

-- the face of a site that began on the records that the file has, in order; its node is declared
pub record HasMade {K : Type 0} (standing : K → Standing) (name : List ℕ) (told : Option Story) (faults : ℕ) (f : Face K) : Type 0 where
  pub version : LogVersion
  pub listed : List Placed
  pub running : IsRunning standing (opening name version listed) first_events (option_map Synced told) faults f
  pub opens : (story : Story) → told ≡ Some story → IsFile (seen story) → opened (seen story) ≡ Has version listed

-- there is no site, or no memory for the declaration
abbrev pub NotMade : List ℕ → Story → Option Story → Stop → Type 0
NotMade name story new stop = NotStarted name story new stop ⊎ ((stop ≡ Stop.NoMemory) × FailsBefore name story new)

-- it failed, or memory ran out, before the face's node was declared; nothing was read, and nothing was written
abbrev pub EndsBefore : List ℕ → Ran → Type 0
EndsBefore name r = FailsBefore name r.told r.story × IsUntouched r

-- what a run does, by how it ends
abbrev pub Transacts : List ℕ → Ran → Result (Unit {0}) Stop → Type 0
Transacts name r (Ok u) = RunsOn name r (Ok u)
Transacts name r (Err (Stop.BadInput at why)) = RunsOn name r (Err (Stop.BadInput at why))
Transacts name r (Err (Stop.Limit what at)) = (IsLimitedBefore name r.told r.story what at × IsUntouched r) ⊎ RunsOn name r (Err (Stop.Limit what at))
Transacts name r (Err (Stop.Foreign at)) = (opened (seen r.told) ≡ Is_foreign at) × ReadsAs r.story (start_leaves (seen r.told)) × IsUntouched r
Transacts name r (Err (Stop.ReadFault faults)) = RunsOn name r (Err (Stop.ReadFault faults))
Transacts name r (Err (Stop.WriteFault faults)) = RunsOn name r (Err (Stop.WriteFault faults))
Transacts name r (Err (Stop.DiskFault faults)) = IsIdle r ⊎ EndsBefore name r ⊎ RunsOn name r (Err (Stop.DiskFault faults))
Transacts name r (Err Stop.NoMemory) = IsIdle r ⊎ EndsBefore name r ⊎ RunsOn name r (Err Stop.NoMemory)
