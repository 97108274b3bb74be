-- What the commands over a log do: each ends as a call over the log on the disk answers, of which this file says what was written and what
-- is left of the disk. What is foreign, and what is shown and found of a log, is said by tp_log_tools.
use Rattle.std.specs.Prelude.{ℕ, ◌≡◌, ◌⊎◌, ◌<◌, ◌^◌, true, Option, Some, List, [], length, Result, Err, IfOk, IfErr, OnOk}
use Rattle.tp_outside.specs.Story.{Story, seen}
use Rattle.tp_logrec.specs.declared.record.LogRec.{LogRec}
use Rattle.tp_logrec.specs.LogText.{IsLog}
use Rattle.tp_logrec.specs.Order.{brief}
use Rattle.tp_journal.specs.Told.{IsOn}
use Rattle.tp_journal.specs.Records.{log_bytes}
use Rattle.tp_model.specs.declared.verdict.What.{What}
use Rattle.tp_model.specs.LogCommands.{placed_texts}
use Rattle.tp_streams.specs.declared.stop.Stop.{Stop}
use Rattle.tp_log_tools.specs.Readings.{IsFile}
use Rattle.tp_log_tools.specs.Opening.{HoldsThroughout}
use Rattle.tp_log_tools.specs.Showing.{Shows, Checks, StopsShow, finding_texts}
use Rattle.tp_log_tools.specs.Shortening.{Compacts, Migrates, StopsCompact, StopsMigrate}
use Rattle.tp_replay.specs.declared.status.Status.{Status}
use Rattle.tp_replay.specs.Status.{ended, ended_with}

-- what is true of the file that the disk told
abbrev pub OnFile : Option Story → (List ℕ → Type 0) → Type 0
OnFile told P = (s : Story) → told ≡ Some s → IsFile (seen s) → P (seen s)

-- ---- every moment

-- a crash at any moment from the first sync on leaves what has P of the records that stood
abbrev pub LeavesAlways : (List LogRec → List ℕ → Type 0) → Option Story → Option Story → Type 0
LeavesAlways P told story = (s : Story) (rs : List LogRec) → told ≡ Some s → length (seen s) < 2 ^ 64 → IsLog (seen s) rs → HoldsThroughout (P rs) s story

-- a log of those records
abbrev pub IsLogOf : List LogRec → List ℕ → Type 0
IsLogOf rs file = IsLog file rs

-- or of their brief
abbrev pub IsLogOrBrief : List LogRec → List ℕ → Type 0
IsLogOrBrief rs file = IsLog file rs ⊎ IsLog file (brief rs)

-- ---- the commands

-- The disk's story before and after, and what was written into the sink.

-- on Ok the disk holds a log of version 2 with no records, and nothing else
abbrev pub Formats : Status → Option Story → Option Story → Type 0
Formats status told story = (s : Story) → told ≡ Some s → status ≡ Status.Ok → IsOn story (log_bytes true [])

-- Each record is written. The sink is as it was where the log is foreign, and where the disk fails; no record that stood is lost.
pub record ShowsLog (status : Status) (told story : Option Story) (written output : Option (List ℕ)) (same_sink : Type 0) : Type 0 where
  pub answer : Result (Unit {0}) Stop
  pub ends : status ≡ ended answer
  pub shows : OnOk answer (OnFile told (λ file. Shows file placed_texts written output story))
  pub stopped : IfErr answer (λ stop. OnFile told (λ file. StopsShow file placed_texts written output story stop))
  pub foreign : (at : ℕ) → answer ≡ Err (Stop.Foreign at) → same_sink
  pub disk_fault : (faults : ℕ) → answer ≡ Err (Stop.DiskFault faults) → same_sink
  pub moments : LeavesAlways IsLogOf told story

-- the same of the findings, with whose number the run ends
pub record ChecksLog (status : Status) (told story : Option Story) (written output : Option (List ℕ)) (same_sink : Type 0) : Type 0 where
  pub answer : Result ℕ Stop
  pub ends : status ≡ ended_with answer
  pub checks : IfOk answer (λ n. OnFile told (λ file. Checks file n written output story))
  pub stopped : IfErr answer (λ stop. OnFile told (λ file. StopsShow file finding_texts written output story stop))
  pub foreign : (at : ℕ) → answer ≡ Err (Stop.Foreign at) → same_sink
  pub disk_fault : (faults : ℕ) → answer ≡ Err (Stop.DiskFault faults) → same_sink
  pub moments : LeavesAlways IsLogOf told story

-- The brief is put in the log's place. At no moment is there less than the brief.
pub record CompactsLog (status : Status) (told story : Option Story) : Type 0 where
  pub answer : Result (Unit {0}) Stop
  pub ends : status ≡ ended answer
  pub compacts : OnOk answer (OnFile told (λ file. Compacts file story))
  pub stopped : IfErr answer (λ stop. OnFile told (λ file. StopsCompact file story stop))
  pub moments : LeavesAlways IsLogOrBrief told story

-- the same in version 2; the one limit is that of the log, at 0
pub record MigratesLog (status : Status) (told story : Option Story) : Type 0 where
  pub answer : Result (Unit {0}) Stop
  pub ends : status ≡ ended answer
  pub migrates : OnOk answer (OnFile told (λ file. Migrates file story))
  pub stopped : IfErr answer (λ stop. OnFile told (λ file. StopsMigrate file story stop))
  pub limits : (what : What) (at : ℕ) → answer ≡ Err (Stop.Limit what at) → (what ≡ What.Log) × (at ≡ 0)
  pub moments : LeavesAlways IsLogOrBrief told story
