-- A stream of frames taken body by body: where a reader stands, and what its next call answers and leaves.
-- Which bytes are frames is said by tp_framing, how an input ends by tp_model, and what stands in a body is no matter of this file.
use Rattle.std.specs.Prelude.{ℕ, suc, ◌≡◌, ◌||◌, Bool, Option, Some, None, is_some, option_map, Result, Ok, Err, List, [], ◌∷◌, ◌++◌}
use Rattle.tp_framing.specs.Frames.{Part, next_in, is_next, Stream, stream, frame_bytes, IsBody, with_body}
use Rattle.tp_model.specs.NodeTranscript.{rest_ending}
use Rattle.tp_streams.specs.declared.stop.Stop.{Stop}
use Rattle.tp_streams.specs.Stops.{ended, unless_outside}

-- where a reader stands
pub record Place : Type 0 where
  -- the bytes that were read and are not handed out
  pub held : List ℕ
  -- how many bodies were handed out, which is the number of the last one
  pub at : ℕ
  -- what every further call answers
  pub stop : Option Stop

-- the next call reads nothing of the source: a frame is at hand, or a bad length, or a stop from before
abbrev pub is_at_hand : Place → Bool
is_at_hand p = is_some p.stop || is_next (next_in p.held)

-- ---- what is still to come

-- bytes at hand and those left after them, where the source tells these
abbrev pub together : List ℕ → Option (List ℕ) → Option (List ℕ)
together held None = None
together held (Some left) = Some (held ++ left)

-- the bytes that are not handed out, read or not
abbrev pub bytes_left : Place → Option (List ℕ) → Option (List ℕ)
bytes_left p left = together p.held left

-- the bodies that they make, and what stands after the last one
abbrev pub frames_left : Place → Option (List ℕ) → Option Stream
frames_left p left = option_map stream (bytes_left p left)

-- ---- what is answered

-- the first body of these; or how the input ends at the frame with that number
abbrev pub first_body : ℕ → Stream → Result (Option (List ℕ)) Stop
first_body number s = elim s.bodies [ [] ↦ ended (rest_ending number s.rest) | b ∷ bs ↦ Ok (Some b) ]

-- the stop from before, or the first body of these bytes
abbrev pub answer : Place → List ℕ → Result (Option (List ℕ)) Stop
answer p bytes = elim p.stop [ Some stop ↦ Err stop | None ↦ first_body (suc p.at) (stream bytes) ]

-- the answer is that for these bytes, or that the source failed, or that memory ran out
abbrev pub IsFor : {A : Type 0} → (List ℕ → Result A Stop) → Option (List ℕ) → Result A Stop → Type 0
IsFor f bytes r = (all : List ℕ) → bytes ≡ Some all → r ≡ unless_outside r (f all)

-- ---- what is left

-- the input is at its end
pub record Ends (old : Place) (left : Option (List ℕ)) (new : Place) (rest : Option (List ℕ)) : Type 0 where
  pub bytes : bytes_left new rest ≡ bytes_left old left
  pub held : new.held ≡ []
  pub at : new.at ≡ old.at
  pub stop : new.stop ≡ None

-- the body was the first of what was left, and what stands after its frame is left
pub record HandsOut (old : Place) (left : Option (List ℕ)) (body : List ℕ) (new : Place) (rest : Option (List ℕ)) : Type 0 where
  pub sound : IsBody body
  pub bytes : bytes_left old left ≡ option_map (λ bytes. frame_bytes body ++ bytes) (bytes_left new rest)
  pub frames : frames_left old left ≡ option_map (with_body body) (frames_left new rest)
  pub at : new.at ≡ suc old.at
  pub stop : new.stop ≡ None

-- nothing was handed out, and nothing will be
pub record Stops (old : Place) (cause : Stop) (new : Place) : Type 0 where
  pub at : new.at ≡ old.at
  pub stop : new.stop ≡ Some cause

-- what a call leaves, by its answer
abbrev pub Leaves : Place → Option (List ℕ) → Result (Option (List ℕ)) Stop → Place → Option (List ℕ) → Type 0
Leaves old left (Ok None) new rest = Ends old left new rest
Leaves old left (Ok (Some body)) new rest = HandsOut old left body new rest
Leaves old left (Err stop) new rest = Stops old stop new

-- Where the source failed, no byte is lost, and what was read has no whole frame: each frame that was read whole was
-- handed out.
pub record IsCutOff (old : Place) (left : Option (List ℕ)) (new : Place) (rest : Option (List ℕ)) : Type 0 where
  pub bytes : bytes_left new rest ≡ bytes_left old left
  pub part : next_in new.held ≡ Part
