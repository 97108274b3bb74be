-- What a run of a face does with the frames of a source: which events happen, what is written, and how it ends.
use Rattle.std.specs.Prelude.{ℕ, suc, ◌≡◌, Option, Some, List, [], ◌∷◌, ◌++◌, Result, Ok, Err}
use Rattle.tp_outside.specs.Story.{Story}
use Rattle.tp_records.specs.declared.body.Event.{Event as Given}
use Rattle.tp_framing.specs.Frames.{Part, next_in, Stream, stream, with_body}
use Rattle.tp_model.specs.Transcript.{Ending, Done, Bad_input, At_limit}
use Rattle.tp_model.specs.NodeRun.{Opening}
use Rattle.tp_journal.specs.Keeping.{Standing}
use Rattle.tp_streams.specs.declared.stop.Stop.{Stop}
use Rattle.tp_serve.specs.Serving.{HasWritten, SiteLeft}
use Rattle.tx_face.specs.Face.{Face}
use Rattle.tp_tx.specs.Transcript.{An_event, TxTranscript, turn, turn_by, ends_at, after_bytes, first_events}
use Rattle.tp_tx.specs.Progress.{turns_at, turns_of, GoesFirst}

-- ---- what was read

-- it comes to these events and these bytes, and ends so
abbrev pub IsWhole : Opening → List ℕ → List Given → List ℕ → Ending → Type 0
IsWhole o input events bytes ending = turns_of o input ≡ after_bytes bytes (ends_at o events ending)

-- What was read holds the frames of these and a part of a frame; the rest was not read.
pub record IsCutShort (o : Opening) (input : List ℕ) (events : List Given) (bytes : List ℕ) (unread : Option (List ℕ)) : Type 0 where
  pub number : ℕ
  pub declares : ℕ
  pub held : List ℕ
  pub rest : List ℕ
  pub unread_is : unread ≡ Some rest
  pub part : next_in held ≡ Part
  pub are : turns_of o input ≡ after_bytes bytes (turns_at o events number declares (stream (held ++ rest)))

-- It comes to these events and these bytes first, then to the events after them and to more bytes, and then to what more frames do.
pub record IsLost (o : Opening) (input : List ℕ) (events next : List Given) (bytes : List ℕ) : Type 0 where
  pub first : GoesFirst o input events bytes
  pub more : List ℕ
  pub later : GoesFirst o input (events ++ next) (bytes ++ more)

-- These events happened, and these bytes tell of them. Where the disk failed, it was with the events after them.
abbrev pub HasRead : Opening → List ℕ → List Given → List Given → List ℕ → Option (List ℕ) → Result (Unit {0}) Stop → Type 0
HasRead o input events next bytes unread (Ok u) = IsWhole o input events bytes Done
HasRead o input events next bytes unread (Err (Stop.BadInput at why)) = IsWhole o input events bytes (Bad_input at why)
HasRead o input events next bytes unread (Err (Stop.Limit what at)) = IsWhole o input events bytes (At_limit what at)
HasRead o input events next bytes unread (Err (Stop.Foreign at)) = ⊥
HasRead o input events next bytes unread (Err (Stop.ReadFault faults)) = IsCutShort o input events bytes unread
HasRead o input events next bytes unread (Err (Stop.WriteFault faults)) = GoesFirst o input events bytes
HasRead o input events next bytes unread (Err (Stop.DiskFault faults)) = IsLost o input events next bytes
HasRead o input events next bytes unread (Err Stop.NoMemory) = GoesFirst o input events bytes

-- how the frames of a source were answered by a face that was made
pub record EndsRunning {K : Type 0} (standing : K → Standing) (o : Opening) (begun : Option Story) (faults : ℕ)
    (left unread written output : Option (List ℕ)) (result : Result (Unit {0}) Stop) (f : Face K) : Type 0 where
  pub events : List Given
  pub next : List Given
  pub bytes : List ℕ
  pub site : SiteLeft standing o events next begun faults f.site result
  pub read : (input : List ℕ) → left ≡ Some input → HasRead o input events next bytes unread result
  pub wrote : (before : List ℕ) → written ≡ Some before → HasWritten before bytes output result
