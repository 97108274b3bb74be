-- How a recording ends the reading of it: at the first frame that is none of a recording, or that passes a limit.
use Rattle.std.specs.Prelude.{ℕ, suc, nat_le, true, false, Option, Some, None, List, [], ◌∷◌, length}
use Rattle.tp_names.specs.Same.{is_name}
use Rattle.tp_framing.specs.Frames.{Rest, stream}
use Rattle.tp_model.specs.declared.verdict.What.{What}
use Rattle.tp_model.specs.declared.verdict.Why.{Why}
use Rattle.tp_model.specs.Transcript.{Ending, Done, Bad_input, At_limit}
use Rattle.tp_model.specs.NodeTranscript.{rest_ending}
use Rattle.tp_weaving.specs.declared.frame.Frame.{Frame}
use Rattle.tp_weaving.specs.Frames.{Recording, nothing_told, frame_in, told_body, has_record}
use Rattle.tp_weaving.specs.Places.{placed}

-- a place after a process is no frame of a recording; then come the limit of 256 nodes, and a number that is not new or a superior
-- that has no place
abbrev pub place_ending : ℕ → Recording → ℕ → Option ℕ → List ℕ → Ending
place_ending at t n under s = elim t.records [
  | r ∷ rs ↦ Bad_input at Why.Body
  | [] ↦ elim (nat_le 256 (length t.places)) [
    | true ↦ At_limit What.Nodes at
    | false ↦ elim (placed t.places n under s) [ None ↦ Bad_input at Why.Name | Some qs ↦ Done ]
  ]
]

-- the processes of a site stand together, and there are 16 sites at most
abbrev pub opening_ending : ℕ → Recording → List ℕ → Ending
opening_ending at t s = elim (has_record t.records s) [
  | true ↦ Bad_input at Why.Name
  | false ↦ elim (nat_le 16 (length t.records)) [ true ↦ At_limit What.Sites at | false ↦ Done ]
]

abbrev pub start_ending : ℕ → Recording → List ℕ → Ending
start_ending at t s = elim t.records [
  | [] ↦ opening_ending at t s
  | r ∷ rs ↦ elim (is_name r.site s) [ true ↦ Done | false ↦ opening_ending at t s ]
]

-- an event is of a process
abbrev pub event_ending : ℕ → Recording → Ending
event_ending at t = elim t.records [ [] ↦ Bad_input at Why.Body | r ∷ rs ↦ Done ]

abbrev pub frame_ending : ℕ → Recording → Frame → Ending
frame_ending at t (Frame.Place n under s) = place_ending at t n under s
frame_ending at t (Frame.Starts s) = start_ending at t s
frame_ending at t (Frame.Takes g) = event_ending at t

-- the next frame, after those that told this; Done where it is taken
abbrev pub body_ending : Recording → List ℕ → Ending
body_ending t body = elim (frame_in body) [ None ↦ Bad_input (suc t.count) Why.Body | Some f ↦ frame_ending (suc t.count) t f ]

abbrev pub ending_from : Recording → List (List ℕ) → Rest → Ending
ending_from t [] rest = rest_ending (suc t.count) rest
ending_from t (b ∷ bs) rest = elim (body_ending t b) [
  | Bad_input at why ↦ Bad_input at why
  | At_limit what at ↦ At_limit what at
  | Done ↦ elim (told_body t b) [ None ↦ Done | Some u ↦ ending_from u bs rest ]
]

-- of a whole recording; Done where each frame is taken and the bytes end with the last of them
abbrev pub ending : List ℕ → Ending
ending bytes = ending_from nothing_told (stream bytes).bodies (stream bytes).rest
