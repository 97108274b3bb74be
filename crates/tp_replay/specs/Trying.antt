-- What `trial` does: the schedule of a number is replayed with no members, and the summary of that is written.
use Rattle.std.specs.Prelude.{ℕ, ◌≡◌, ◌<◌, Option, Some, List, [], ◌++◌, Result, Ok, Err}
use Rattle.tp_model.specs.Transcript.{Transcript, Done, Bad_input, At_limit, transcript_with}
use Rattle.tp_model.specs.Generator.{schedule, summary}
use Rattle.tp_streams.specs.Written.{WritesPrefix}
use Rattle.tp_world_members.specs.DrivenWorld.{Stands}
use Rattle.tp_world_members.specs.declared.driven_world.DrivenWorld.{DrivenWorld}
use Rattle.tp_replay.specs.declared.status.Status.{Status}
use Rattle.tp_replay.specs.declared.stop.LineStop.{LineStop}
use Rattle.tp_replay.specs.declared.stop.TrialStop.{TrialStop}
use Rattle.tp_replay.specs.Status.{trial_status}

-- ---- the replay

-- the transcript of a schedule where no member is there
abbrev pub alone : List ℕ → Transcript
alone bytes = transcript_with 0 bytes []

-- it came to its end, and leaves this world
abbrev pub IsPlayed : {M : Type 0} → Transcript → DrivenWorld M → Type 0
IsPlayed t new = (t.ending ≡ Done) × Stands t.world new

-- or it ends at one of its lines
abbrev pub StopsAt : Transcript → LineStop → Type 0
StopsAt t (LineStop.BadInput at why) = (0 < at) × (t.ending ≡ Bad_input at why)
StopsAt t (LineStop.Limit what at) = (0 < at) × (t.ending ≡ At_limit what at)
StopsAt t LineStop.NoMemory = Unit {0}

-- ---- the command

-- On Ok the summary is written after the bytes from before, and where the sink fails a prefix of it; else nothing is.
abbrev pub TriesSchedule : ℕ → ℕ → ℕ → Option (List ℕ) → Option (List ℕ) → Type 0 → Result (Unit {0}) TrialStop → Type 0
TriesSchedule number nodes rounds written output same_sink (Ok u) = (before : List ℕ) → written ≡ Some before
    → output ≡ Some (before ++ summary number nodes rounds)
TriesSchedule number nodes rounds written output same_sink (Err (TrialStop.Line stop)) = same_sink × StopsAt (alone (schedule number nodes rounds)) stop
TriesSchedule number nodes rounds written output same_sink (Err (TrialStop.WriteFault faults)) = (before : List ℕ) → written ≡ Some before
    → WritesPrefix before (summary number nodes rounds) output

-- a run ends as the trial answers
pub record Tries (number nodes rounds : ℕ) (written output : Option (List ℕ)) (same_sink : Type 0) (status : Status) : Type 0 where
  pub answer : Result (Unit {0}) TrialStop
  pub ends : status ≡ trial_status answer
  pub tries : TriesSchedule number nodes rounds written output same_sink answer
