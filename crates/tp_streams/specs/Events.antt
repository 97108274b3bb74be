-- The events that a stream of frames says, up to the first that is bad or passes a limit, for a program with its own limit
-- of events; and where a reader of them stands, what its next call answers and leaves.
-- It is tp_model's definition of an input with that limit put in, and says nothing of what an event does.
use Rattle.std.specs.Prelude.{ℕ, suc, ◌≡◌, ◌+◌, nat_lt, true, false, Option, Some, None, option_map, Result, Ok, Err, List, [], ◌∷◌, ◌++◌}
use Rattle.tp_records.specs.declared.body.Event.{Event}
use Rattle.tp_records.specs.BodyReading.{event_in}
use Rattle.tp_framing.specs.Frames.{Stream, Rest, stream, frame_bytes}
use Rattle.tp_model.specs.declared.verdict.What.{What}
use Rattle.tp_model.specs.declared.verdict.Why.{Why}
use Rattle.tp_model.specs.Transcript.{Bad_input, At_limit}
use Rattle.tp_model.specs.NodeTranscript.{Input, declared_by, rest_ending, stops, with_event}
use Rattle.tp_streams.specs.declared.stop.Stop.{Stop}
use Rattle.tp_streams.specs.Stops.{ended}
use Rattle.tp_streams.specs.Taken.{Place, bytes_left, frames_left}

-- ---- the events of a stream

-- from the frame with that number on, before which so many nodes were declared, with so many events at most
abbrev pub events_from : ℕ → ℕ → ℕ → List (List ℕ) → Rest → Input
events_from most at declares [] rest = stops (rest_ending at rest)
events_from most at declares (b ∷ bs) rest = elim (event_in b) [
  | None ↦ stops (Bad_input at Why.Body)
  | Some g ↦ elim (nat_lt most at) [
    | true ↦ stops (At_limit What.Events at)
    | false ↦ elim (nat_lt 256 (declares + declared_by g)) [
      | true ↦ stops (At_limit What.Nodes at)
      | false ↦ with_event g (events_from most (suc at) (declares + declared_by g) bs rest)
    ]
  ]
]

-- ---- one call after the other

-- where a reader stands
pub record EventPlace : Type 0 where
  -- among the frames
  pub place : Place
  -- how many nodes were declared
  pub declares : ℕ
  -- how many events there may be
  pub most : ℕ

-- the events of a stream that goes on from there
abbrev pub input_at : EventPlace → Stream → Input
input_at p s = events_from p.most (suc p.place.at) p.declares s.bodies s.rest

-- the events that are still to come, and how they end
abbrev pub events_left : EventPlace → Option (List ℕ) → Option Input
events_left p left = option_map (input_at p) (frames_left p.place left)

-- the first of these events, or how they end
abbrev pub first_event : Input → Result (Option Event) Stop
first_event i = elim i.events [ [] ↦ ended i.ending | g ∷ gs ↦ Ok (Some g) ]

-- the stop from before, or the first event that these bytes say
abbrev pub answer_event : EventPlace → List ℕ → Result (Option Event) Stop
answer_event p bytes = elim p.place.stop [ Some stop ↦ Err stop | None ↦ first_event (input_at p (stream bytes)) ]

-- ---- what is left

-- the input is at its end
pub record EndsEvents (old : EventPlace) (left : Option (List ℕ)) (new : EventPlace) (rest : Option (List ℕ)) : Type 0 where
  pub bytes : bytes_left new.place rest ≡ bytes_left old.place left
  pub held : new.place.held ≡ []
  pub at : new.place.at ≡ old.place.at
  pub stop : new.place.stop ≡ None
  pub declares : new.declares ≡ old.declares
  pub most : new.most ≡ old.most

-- the event was said by the first frame of what was left, and what stands after this frame is left
pub record HandsEvent (old : EventPlace) (left : Option (List ℕ)) (event : Event) (new : EventPlace) (rest : Option (List ℕ)) : Type 0 where
  pub body : List ℕ
  pub says : event_in body ≡ Some event
  pub bytes : bytes_left old.place left ≡ option_map (λ bytes. frame_bytes body ++ bytes) (bytes_left new.place rest)
  pub events : events_left old left ≡ option_map (with_event event) (events_left new rest)
  pub at : new.place.at ≡ suc old.place.at
  pub stop : new.place.stop ≡ None
  pub declares : new.declares ≡ old.declares + declared_by event
  pub most : new.most ≡ old.most

-- what a call leaves, by its answer
abbrev pub LeavesEvents : EventPlace → Option (List ℕ) → Result (Option Event) Stop → EventPlace → Option (List ℕ) → Type 0
LeavesEvents old left (Ok None) new rest = EndsEvents old left new rest
LeavesEvents old left (Ok (Some event)) new rest = HandsEvent old left event new rest
LeavesEvents old left (Err stop) new rest = new.place.stop ≡ Some stop
