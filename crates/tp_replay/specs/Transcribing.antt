-- What a run of `replay` writes, by how it ends, for some answers that the members may give: the transcript of the definitions; or,
-- where the source or the sink failed or memory was wanting, a prefix of it.
use Rattle.std.specs.Prelude.{ℕ, ◌≡◌, ◌≤◌, ◌+◌, ◌++◌, ◌-◌, Option, Some, List, [], ◌∷◌, length, drop, map, Result, Ok, Err}
use Rattle.tp_records.specs.declared.request.Request.{Request}
use Rattle.tp_records.specs.Answers.{Answer}
use Rattle.tp_model.specs.declared.verdict.What.{What}
use Rattle.tp_model.specs.declared.verdict.Why.{Why}
use Rattle.tp_model.specs.OutText.{out_texts}
use Rattle.tp_model.specs.Trees.{closing}
use Rattle.tp_model.specs.Transcript.{Put, answers_of, AreAllowed, RawLine, raw_lines, Ending, Done, Bad_input, At_limit, transcript_with, octets_taken}
use Rattle.tp_schedule.specs.LinesLeft.{first_length, first_taken}
use Rattle.tp_world_members.specs.Members.{slot_at, may}
use Rattle.tp_replay.specs.declared.status.Status.{Status}
use Rattle.tp_replay.specs.declared.stop.LineStop.{LineStop}
use Rattle.tp_replay.specs.declared.stop.InputStop.{InputStop}
use Rattle.tp_replay.specs.declared.stop.ReplayStop.{ReplayStop}
use Rattle.tp_replay.specs.declared.stop.WriteFault.{WriteFault}
use Rattle.tp_replay.specs.Status.{replay_status}
use Rattle.tp_streams.specs.Written.{IsPrefix}
use Rattle.tp_replay.specs.Written.{Writes, WritesBut}

-- ---- members

-- what the member of that number may answer, of those that were handed in: nothing, or what it allows
abbrev pub may_of : {M : Type 0} → (M → List Answer → Type 0) → List M → ℕ → List Answer → Type 0
may_of allowed ms k answers = may allowed (slot_at (map (λ m. Some m) ms) k) answers

-- each of them may give its own of these answers to what was put; more was put, maybe, and not answered
abbrev pub AreGiven : (ℕ → List Answer → Type 0) → List Put → List (Option Request) → Type 0
AreGiven may puts answers = (k : ℕ) → may k (answers_of k puts answers)

-- ---- what was read

-- the bytes of these lines, with their ends
abbrev pub size_of : List RawLine → ℕ
size_of [] = 0
size_of (l ∷ ls) = octets_taken l + size_of ls

-- of their bytes at most so many were read, where the source tells what it has left
abbrev pub ReadsTo : ℕ → List RawLine → Option (List ℕ) → Type 0
ReadsTo most ls unread = (left : List ℕ) → unread ≡ Some left → size_of ls ≤ length left + most

-- how many bytes at most are read past the start of a line that ends the run, which is the first of these
abbrev pub past_bad : Why → List RawLine → ℕ
past_bad Why.Long ls = first_taken ls + 12288
past_bad Why.Word ls = 12288
past_bad Why.Number ls = 12288
past_bad Why.Name ls = 12288
past_bad Why.Short ls = 12288
past_bad Why.Length ls = 12288
past_bad Why.Body ls = 12288

abbrev pub past_limit : What → List RawLine → ℕ
past_limit What.Schedule ls = first_taken ls + 12288
past_limit What.Sites ls = 12288
past_limit What.Nodes ls = 12288
past_limit What.Frames ls = 12288
past_limit What.Answers ls = 12288
past_limit What.Events ls = 12288
past_limit What.Log ls = 12288
past_limit What.Boots ls = 12288

-- the lines from the one of that number on
abbrev pub lines_from : ℕ → List ℕ → List RawLine
lines_from at bytes = drop (at - 1) (raw_lines bytes)

-- hardly past the line that stops the replay
abbrev pub ReadsLine : List ℕ → LineStop → Option (List ℕ) → Type 0
ReadsLine bytes (LineStop.BadInput at why) unread = ReadsTo (past_bad why (lines_from at bytes)) (lines_from at bytes) unread
ReadsLine bytes (LineStop.Limit what at) unread = ReadsTo (past_limit what (lines_from at bytes)) (lines_from at bytes) unread
ReadsLine bytes LineStop.NoMemory unread = Unit {0}

-- How far the source was read: to its end, or till the reading stopped.
abbrev pub ReadsInput : List ℕ → Result (Unit {0}) InputStop → Option (List ℕ) → Type 0
ReadsInput bytes (Ok u) unread = unread ≡ Some []
ReadsInput bytes (Err (InputStop.Line stop)) unread = ReadsLine bytes stop unread
ReadsInput bytes (Err (InputStop.ReadFault faults)) unread = Unit {0}

-- the same of a replay, whose sink may fail before
abbrev pub Reads : List ℕ → Result (Unit {0}) ReplayStop → Option (List ℕ) → Type 0
Reads bytes (Ok u) unread = ReadsInput bytes (Ok u) unread
Reads bytes (Err (ReplayStop.Input stop)) unread = ReadsInput bytes (Err stop) unread
Reads bytes (Err (ReplayStop.WriteFault faults)) unread = Unit {0}

-- ---- what is to be written

-- all of the transcript, which ends so: each indication that was put was answered
pub record TellsAll (may : ℕ → List Answer → Type 0) (members : ℕ) (bytes : List ℕ) (e : Ending) (text : List ℕ) : Type 0 where
  pub answers : List (Option Request)
  pub allowed : AreAllowed may (transcript_with members bytes answers).puts answers
  pub ending : (transcript_with members bytes answers).ending ≡ e
  pub whole : text ≡ (transcript_with members bytes answers).written

-- a prefix of it
pub record TellsSome (may : ℕ → List Answer → Type 0) (members : ℕ) (bytes text : List ℕ) : Type 0 where
  pub answers : List (Option Request)
  pub given : AreGiven may (transcript_with members bytes answers).puts answers
  pub prefix : IsPrefix text (transcript_with members bytes answers).written

-- The transcript of some whole lines, but for its closing lines; of the rest no line's end was read.
pub record TellsLines (may : ℕ → List Answer → Type 0) (members : ℕ) (bytes : List ℕ) (unread : Option (List ℕ)) (text : List ℕ) : Type 0 where
  pub lines : List ℕ
  pub rest : List ℕ
  pub is : bytes ≡ lines ++ rest
  pub cut : raw_lines bytes ≡ raw_lines lines ++ raw_lines rest
  pub answers : List (Option Request)
  pub allowed : AreAllowed may (transcript_with members lines answers).puts answers
  pub ending : (transcript_with members lines answers).ending ≡ Done
  pub whole : (transcript_with members lines answers).written ≡ text ++ out_texts (closing (transcript_with members lines answers).world)
  pub short : ReadsTo (first_length (raw_lines rest)) (raw_lines rest) unread

-- by the line that stops the replay
abbrev pub TellsLine : (ℕ → List Answer → Type 0) → ℕ → List ℕ → LineStop → List ℕ → Type 0
TellsLine may members bytes (LineStop.BadInput at why) text = TellsAll may members bytes (Bad_input at why) text
TellsLine may members bytes (LineStop.Limit what at) text = TellsAll may members bytes (At_limit what at) text
TellsLine may members bytes LineStop.NoMemory text = TellsSome may members bytes text

-- by how far the schedule is read
abbrev pub TellsInput : (ℕ → List Answer → Type 0) → ℕ → List ℕ → Result (Unit {0}) InputStop → Option (List ℕ) → List ℕ → Type 0
TellsInput may members bytes (Ok u) unread text = TellsAll may members bytes Done text
TellsInput may members bytes (Err (InputStop.Line stop)) unread text = TellsLine may members bytes stop text
TellsInput may members bytes (Err (InputStop.ReadFault faults)) unread text = TellsLines may members bytes unread text

-- and where the sink fails
abbrev pub Tells : (ℕ → List Answer → Type 0) → ℕ → List ℕ → Result (Unit {0}) ReplayStop → Option (List ℕ) → List ℕ → Type 0
Tells may members bytes (Ok u) unread text = TellsInput may members bytes (Ok u) unread text
Tells may members bytes (Err (ReplayStop.Input stop)) unread text = TellsInput may members bytes (Err stop) unread text
Tells may members bytes (Err (ReplayStop.WriteFault faults)) unread text = TellsSome may members bytes text

-- ---- what is written

-- before the last bytes are written, which may be cut short
abbrev pub TranscribesOn : (ℕ → List Answer → Type 0) → ℕ → List ℕ → Result (Result (Unit {0}) InputStop) WriteFault → Option (List ℕ)
    → List ℕ → Option (List ℕ) → Option (List ℕ) → Type 0
TranscribesOn may members bytes (Ok input) unread pending old new = WritesBut
    (λ text. TellsInput may members bytes input unread text × TellsSome may members bytes text) pending old new
-- the sink failed
TranscribesOn may members bytes (Err fault) unread pending old new = Writes (TellsSome may members bytes) old new

-- what the replay answers once all bytes are written
abbrev pub replay_of : Result (Unit {0}) InputStop → Result (Unit {0}) ReplayStop
replay_of (Ok u) = Ok u
replay_of (Err stop) = Err (ReplayStop.Input stop)

-- ---- a run

-- It ends as the replay answers: so far it has read the source.
pub record ReadsSo (bytes : List ℕ) (status : Status) (unread : Option (List ℕ)) : Type 0 where
  pub answer : Result (Unit {0}) ReplayStop
  pub ends : status ≡ replay_status answer
  pub reads : Reads bytes answer unread

-- Of a source that tells its bytes: the run has a text, which is that of its ending; where the sink tells what was written, just that text
-- was written after it.
pub record Transcribes (may : ℕ → List Answer → Type 0) (members : ℕ) (bytes : List ℕ) (status : Status) (unread old new : Option (List ℕ)) : Type 0 where
  pub answer : Result (Unit {0}) ReplayStop
  pub ends : status ≡ replay_status answer
  pub writes : Writes (Tells may members bytes answer unread) old new

-- every transcript of these bytes comes to its end, whatever the members answer of what they may
abbrev pub IsComplete : (ℕ → List Answer → Type 0) → ℕ → List ℕ → Type 0
IsComplete may members bytes =
    (answers : List (Option Request)) → AreAllowed may (transcript_with members bytes answers).puts answers
    → (transcript_with members bytes answers).ending ≡ Done
