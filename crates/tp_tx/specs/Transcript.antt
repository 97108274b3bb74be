-- What a face of a site's node 1 writes for a stream of frames, and how it ends: for each frame the outputs of what it asks for, and
-- where the program stands then. It begins on a log that was read; how a log is read is in LogText.
use Rattle.std.specs.Prelude.{ℕ, suc, ◌+◌, ◌==◌, nat_lt, Bool, true, false, Option, Some, None, List, [], ◌∷◌, ◌++◌}
use Rattle.tp_records.specs.declared.request.Request.{Request}
use Rattle.tp_records.specs.declared.body.Event.{Event as Given}
use Rattle.tp_framing.specs.Frames.{Stream, Rest, frame_bytes, stream}
use Rattle.tp_logrec.specs.declared.record.LogRec.{LogRec}
use Rattle.tp_model.specs.declared.verdict.What.{What}
use Rattle.tp_model.specs.declared.verdict.Why.{Why}
use Rattle.tp_model.specs.Links.{greatest}
use Rattle.tp_model.specs.History.{digest}
use Rattle.tp_model.specs.Transcript.{Ending, Bad_input, At_limit}
use Rattle.tp_model.specs.NodeRun.{Opening, boot_of, origin_at, log_after}
use Rattle.tp_model.specs.NodeTranscript.{outputs_bytes, rest_ending, is_past_limit}
use Rattle.tp_site.specs.Events.{history_at, outputs_after}
use Rattle.tx_face.specs.declared.stand.Stand.{Stand}
use Rattle.tx_face.specs.declared.code.Code.{Code}
use Rattle.tx_face.specs.Stands.{stand, takes_begin, takes_commit, takes_rollback, takes_finish}
use Rattle.tx_face.specs.Codes.{code_of}
use Rattle.tx_face.specs.Face.{is_fed}
use Rattle.tp_tx.specs.declared.frame.Frame.{Frame}
use Rattle.tp_tx.specs.Frames.{frame_in, declared_by_frame, declared_in}

-- ---- where the program stands

-- after these events of the site, by the history of node 1, which is the root's
abbrev pub stand_after : Opening → List Given → Stand
stand_after o gs = stand (digest (origin_at o 1) (history_at o gs 1))

abbrev pub code_after : Opening → List Given → Option Code
code_after o gs = code_of (history_at o gs 1)

abbrev pub stand_byte : Stand → ℕ
stand_byte Stand.Idle = 0
stand_byte Stand.Open = 1
stand_byte Stand.Asked = 2
stand_byte Stand.Owing = 3
stand_byte Stand.Closing = 4

abbrev pub code_byte : Option Code → ℕ
code_byte None = 0
code_byte (Some Code.Committed) = 1
code_byte (Some Code.CommittedHazard) = 2
code_byte (Some Code.CommittedMixed) = 3
code_byte (Some Code.RolledBack) = 4
code_byte (Some Code.RolledBackHazard) = 5
code_byte (Some Code.RolledBackMixed) = 6

-- ---- one frame

-- what a frame asks for: a call that is not taken, nothing, or an event of the site
pub data Asks : Type 0 where
  Not_taken : Asks
  Nothing : Asks
  An_event : Given → Asks

abbrev pub if_taken : Bool → Given → Asks
if_taken true g = An_event g
if_taken false g = Not_taken

-- of a program that stands there
abbrev pub asks : Stand → Frame → Asks
asks s (Frame.Event g) = if_taken (is_fed 1 g) g
asks s (Frame.Begin p) = if_taken (takes_begin s) (Given.Do 1 (Request.BeginTransaction p))
asks s Frame.Commit = if_taken (takes_commit s) (Given.Do 1 Request.Commit)
asks s Frame.Rollback = if_taken (takes_rollback s) (Given.Do 1 Request.Rollback)
asks s Frame.Finish = if_taken (takes_finish s) (Given.Do 1 Request.Done)
asks s Frame.Ask = Nothing

-- the events after it
abbrev pub events_with : List Given → Asks → List Given
events_with gs Not_taken = gs
events_with gs Nothing = gs
events_with gs (An_event g) = gs ++ g ∷ []

-- the frame with where the program stands
abbrev pub standing_frame : Stand → Option Code → List ℕ
standing_frame s c = frame_bytes (48 ∷ stand_byte s ∷ code_byte c ∷ [])

-- the frame that says that a call is not taken there
abbrev pub refusing_frame : Stand → List ℕ
refusing_frame s = frame_bytes (49 ∷ stand_byte s ∷ [])

-- the frames that come before where the program stands
abbrev pub given_first : Opening → List Given → Asks → List ℕ
given_first o gs Not_taken = refusing_frame (stand_after o gs)
given_first o gs Nothing = []
given_first o gs (An_event g) = outputs_bytes (outputs_after o gs g)

abbrev pub answer_bytes : Opening → List Given → Asks → List ℕ
answer_bytes o gs a =
    let hs : List Given = events_with gs a in
    given_first o gs a ++ standing_frame (stand_after o hs) (code_after o hs)

-- ---- the frames up to the first that is bad or passes a limit

-- how it goes with one frame: the stream ends for the program there, or it asks for that
pub data Turn : Type 0 where
  Stops : Ending → Turn
  Goes : Asks → Turn

-- the record of its event has no room, or it is answered
abbrev pub turn_by : Opening → List Given → ℕ → Asks → Turn
turn_by o gs at a = elim (is_past_limit o (events_with gs a)) [ true ↦ Stops (At_limit What.Log at) | false ↦ Goes a ]

-- the body of the frame with that number, before which so many nodes were declared by frames
abbrev pub turn : Opening → List Given → ℕ → ℕ → List ℕ → Turn
turn o gs at declares body = elim (frame_in body) [
  | None ↦ Stops (Bad_input at Why.Body)
  | Some f ↦ elim (nat_lt 1000000 at) [
    | true ↦ Stops (At_limit What.Events at)
    | false ↦ elim (nat_lt 256 (declares + declared_by_frame f)) [
      | true ↦ Stops (At_limit What.Nodes at)
      | false ↦ turn_by o gs at (asks (stand_after o gs) f)
    ]
  ]
]

-- what is written, how it ends, the events of the site, and the log that is left, oldest record first
pub record TxTranscript : Type 0 where
  pub written : List ℕ
  pub ending : Ending
  pub events : List Given
  pub log : List LogRec

abbrev pub ends_at : Opening → List Given → Ending → TxTranscript
ends_at o gs e = record { written = []; ending = e; events = gs; log = log_after o gs }

abbrev pub after_bytes : List ℕ → TxTranscript → TxTranscript
after_bytes bytes t = record { written = bytes ++ t.written; ending = t.ending; events = t.events; log = t.log }

-- from the frame with that number on
abbrev pub turns_from : Opening → List Given → ℕ → ℕ → List (List ℕ) → Rest → TxTranscript
turns_from o gs at declares [] rest = ends_at o gs (rest_ending at rest)
turns_from o gs at declares (b ∷ bs) rest = elim (turn o gs at declares b) [
  | Stops e ↦ ends_at o gs e
  | Goes a ↦ after_bytes (answer_bytes o gs a) (turns_from o (events_with gs a) (suc at) (declares + declared_in b) bs rest)
]

-- ---- the whole

-- the site's first event is that its node 1 is declared as a root
abbrev pub first_events : List Given
first_events = Given.Declare 1 None ∷ []

abbrev pub nothing_written : Opening → What → TxTranscript
nothing_written o what = record { written = []; ending = At_limit what 0; events = []; log = o.records }

-- without a boot number left, or room for the boot, it ends before every frame
abbrev pub tx_transcript : Opening → List ℕ → TxTranscript
tx_transcript o bytes = elim (boot_of o == suc greatest) [
  | true ↦ nothing_written o What.Boots
  | false ↦ elim (is_past_limit o []) [
    | true ↦ nothing_written o What.Log
    | false ↦ (let s : Stream = stream bytes in turns_from o first_events 1 0 s.bodies s.rest)
  ]
]
