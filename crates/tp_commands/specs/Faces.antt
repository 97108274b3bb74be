-- What `tx` does: it ends as the loop of a face over the disk's log ends, given the frames of the source. Which calls are taken, which events
-- happen, what is written and what a crash leaves of the log is said by tp_tx.
use Rattle.std.specs.Prelude.{ℕ, ◌≡◌, Option, Some, List, Result, Err}
use Rattle.tp_outside.specs.Story.{Story, seen}
use Rattle.tp_model.specs.declared.verdict.What.{What}
use Rattle.tp_streams.specs.declared.stop.Stop.{Stop}
use Rattle.tp_log_tools.specs.Readings.{IsFile}
use Rattle.tp_tx.specs.Transacting.{Transacts}
use Rattle.tp_replay.specs.declared.status.Status.{Status}
use Rattle.tp_replay.specs.Status.{ended}

-- Before every frame, where the log is foreign, no boot number is left or the boot has no room, nothing is read and nothing written.
pub record ServesFace (name : List ℕ) (status : Status) (told story : Option Story) (left unread written output : Option (List ℕ))
    (same_sink : Type 0) : Type 0 where
  pub answer : Result (Unit {0}) Stop
  pub ends : status ≡ ended answer
  pub transacts : (s : Story) → told ≡ Some s → IsFile (seen s)
      → Transacts name (record { told = s; story = story; left = left; unread = unread; written = written; output = output }) answer
  pub foreign : (at : ℕ) → answer ≡ Err (Stop.Foreign at) → (unread ≡ left) × same_sink
  pub before : (what : What) → answer ≡ Err (Stop.Limit what 0) → (unread ≡ left) × same_sink
