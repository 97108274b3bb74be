-- What a site alone writes for a stream of frames, and how it ends: for each event the frames of its outputs, and one that says it is over.
-- It begins on a log that was read; how a log is read is in LogText.
use Rattle.std.specs.Prelude.{ℕ, zero, suc, ◌+◌, ◌==◌, nat_lt, Bool, true, false, Option, Some, None, List, [], ◌∷◌, ◌++◌, length}
use Rattle.tp_records.specs.declared.body.Event.{Event as Given}
use Rattle.tp_records.specs.declared.body.Output.{Output}
use Rattle.tp_records.specs.Bodies.{output_bytes}
use Rattle.tp_records.specs.BodyReading.{event_in}
use Rattle.tp_framing.specs.Frames.{Stream, Rest, Nothing, Short, Bad_length, frame_bytes, stream}
use Rattle.tp_logrec.specs.declared.record.LogRec.{LogRec}
use Rattle.tp_logrec.specs.declared.record.LogVersion.{LogVersion}
use Rattle.tp_logrec.specs.LogText.{log_text}
use Rattle.tp_model.specs.declared.verdict.What.{What}
use Rattle.tp_model.specs.declared.verdict.Why.{Why}
use Rattle.tp_model.specs.Links.{greatest}
use Rattle.tp_model.specs.Transcript.{Ending, Done, Bad_input, At_limit}
use Rattle.tp_model.specs.NodeRun.{Opening, boot_of, node_run, log_after}

-- ---- what is written

abbrev pub outputs_bytes : List Output → List ℕ
outputs_bytes [] = []
outputs_bytes (o ∷ os) = frame_bytes (output_bytes o) ++ outputs_bytes os

-- the outputs of each event, and Over
abbrev pub written_of : List (List Output) → List ℕ
written_of [] = []
written_of (os ∷ rest) = outputs_bytes (os ++ Output.Over ∷ []) ++ written_of rest

-- ---- limits

-- the bytes of a log that stand up to its closing gate
abbrev pub size_of : LogVersion → List LogRec → ℕ
size_of ver rs = 6 + length (log_text ver rs)

abbrev pub is_declare : Given → Bool
is_declare (Given.Declare n s) = true
is_declare _ = false

abbrev pub declared_by : Given → ℕ
declared_by g = elim (is_declare g) [ true ↦ 1 | false ↦ 0 ]

-- ---- the frames up to the first that is bad or passes a limit

-- the events, and how they end
pub record Input : Type 0 where
  pub events : List Given
  pub ending : Ending

abbrev pub stops : Ending → Input
stops e = record { events = []; ending = e }

abbrev pub with_event : Given → Input → Input
with_event g i = record { events = g ∷ i.events; ending = i.ending }

abbrev pub rest_ending : ℕ → Rest → Ending
rest_ending at Nothing = Done
rest_ending at Short = Bad_input at Why.Short
rest_ending at Bad_length = Bad_input at Why.Length

-- from the frame with that number on, before which so many nodes were declared
abbrev pub input_from : ℕ → ℕ → List (List ℕ) → Rest → Input
input_from at declares [] rest = stops (rest_ending at rest)
input_from at declares (b ∷ bs) rest = elim (event_in b) [
  | None ↦ stops (Bad_input at Why.Body)
  | Some g ↦ elim (nat_lt 1000000 at) [
    | true ↦ stops (At_limit What.Events at)
    | false ↦ elim (nat_lt 256 (declares + declared_by g)) [
      | true ↦ stops (At_limit What.Nodes at)
      | false ↦ with_event g (input_from (suc at) (declares + declared_by g) bs rest)
    ]
  ]
]

abbrev pub input_of : List ℕ → Input
input_of bytes = let s : Stream = stream bytes in input_from 1 0 s.bodies s.rest

-- ---- the whole

pub record NodeTranscript : Type 0 where
  pub written : List ℕ
  pub ending : Ending
  -- the log that is left, oldest record first
  pub log : List LogRec

abbrev pub is_past_limit : Opening → List Given → Bool
is_past_limit o gs = nat_lt 268435456 (size_of o.version (log_after o gs))

-- how many of the events keep the log within its limit
abbrev pub fitting_from : Opening → List Given → List Given → Option ℕ
fitting_from o before [] = None
fitting_from o before (g ∷ gs) = elim (is_past_limit o (before ++ g ∷ [])) [ true ↦ Some (length before) | false ↦ fitting_from o (before ++ g ∷ []) gs ]

abbrev pub taken : {A : Type 0} → ℕ → List A → List A
taken n [] = []
taken n (x ∷ xs) = elim n [ zero ↦ [] | suc m ↦ x ∷ taken m xs ]

abbrev pub transcript_of : Opening → List Given → Ending → NodeTranscript
transcript_of o gs e = record { written = written_of (node_run o gs).outputs; ending = e; log = log_after o gs }

-- the first event whose record has no room ends it
abbrev pub limited : Opening → Input → NodeTranscript
limited o i = elim (is_past_limit o i.events) [
  | false ↦ transcript_of o i.events i.ending
  | true ↦ elim (fitting_from o [] i.events) [
    | None ↦ transcript_of o i.events i.ending
    | Some n ↦ transcript_of o (taken n i.events) (At_limit What.Log (suc n))
  ]
]

abbrev pub nothing_written : Opening → What → NodeTranscript
nothing_written o what = record { written = []; ending = At_limit what 0; log = o.records }

-- without a boot number left, or room for the boot, it ends before every frame
abbrev pub node_transcript : Opening → List ℕ → NodeTranscript
node_transcript o bytes = elim (boot_of o == suc greatest) [
  | true ↦ nothing_written o What.Boots
  | false ↦ elim (is_past_limit o []) [ true ↦ nothing_written o What.Log | false ↦ limited o (input_of bytes) ]
]
