-- Whatever a crash leaves where a run of `node` or of `tx` has ended, however that was, is what a process of its site leaves. A program that
-- is killed is one whose source, sink or disk fails from then on.
use Rattle.std.specs.Prelude.{ℕ, ◌≡◌, ◌⊎◌, ◌<◌, ◌^◌, Some, List, [], length, Result}
use Rattle.tp_outside.specs.Story.{seen}
use Rattle.tp_records.specs.declared.body.Event.{Event as Given}
use Rattle.tp_logrec.specs.declared.record.LogVersion.{LogVersion}
use Rattle.tp_logrec.specs.LogText.{Placed, recs}
use Rattle.tp_model.specs.LogCommands.{Has, opened}
use Rattle.tp_model.specs.NodeRun.{node_run}
use Rattle.tp_model.specs.NodeTranscript.{written_of}
use Rattle.tp_journal.specs.Told.{LeavesNow}
use Rattle.tp_streams.specs.declared.stop.Stop.{Stop}
use Rattle.tp_streams.specs.Written.{WritesPrefix}
use Rattle.tp_serve.specs.Serving.{Ran, Serves, IsUntouched, IsIdle, HasWritten}
use Rattle.tp_tx.specs.Running.{HasRead}
use Rattle.tp_tx.specs.Transacting.{Transacts}
use Rattle.tp_briefs.specs.Starts.{on}
use Rattle.tp_programs.specs.Stopped.{IsStopped}

-- what it leaves
abbrev pub Stops : List ℕ → Ran → List Given → Type 0
Stops name r events = LeavesNow (IsStopped name (seen r.told) events) r.story

-- the file is one on which a process may start
pub record IsStart (r : Ran) (version : LogVersion) (listed : List Placed) : Type 0 where
  pub small : length (seen r.told) < 2 ^ 64
  pub opens : opened (seen r.told) ≡ Has version listed

-- ---- node

-- all that it wrote, it wrote of events that happened in the process
pub record IsNode (name : List ℕ) (r : Ran) (version : LogVersion) (listed : List Placed) : Type 0 where
  pub events : List Given
  pub wrote : (before : List ℕ) → r.written ≡ Some before → WritesPrefix before (written_of (node_run (on name version (recs listed)) events).outputs) r.output
  pub stops : Stops name r events

-- where the log was not opened nothing was read, and nothing written
abbrev pub NodeIsAProcess : Type 0
NodeIsAProcess =
    (name : List ℕ) (r : Ran) (result : Result (Unit {0}) Stop) (version : LogVersion) (listed : List Placed) → Serves name r result → IsStart r version listed
    → IsIdle r ⊎ IsNode name r version listed

-- ---- tx

-- these are the answers to the frames that asked for the events
pub record IsFace (name : List ℕ) (r : Ran) (result : Result (Unit {0}) Stop) (version : LogVersion) (listed : List Placed) : Type 0 where
  pub events : List Given
  pub next : List Given
  pub bytes : List ℕ
  pub read : (input : List ℕ) → r.left ≡ Some input → HasRead (on name version (recs listed)) input events next bytes r.unread result
  pub wrote : (before : List ℕ) → r.written ≡ Some before → HasWritten before bytes r.output result
  pub stops : Stops name r events

-- where the root's node was not declared nothing was read, and nothing written
abbrev pub FaceIsAProcess : Type 0
FaceIsAProcess =
    (name : List ℕ) (r : Ran) (result : Result (Unit {0}) Stop) (version : LogVersion) (listed : List Placed) → Transacts name r result
    → IsStart r version listed
    → IsIdle r ⊎ (Stops name r [] × IsUntouched r) ⊎ IsFace name r result version listed
