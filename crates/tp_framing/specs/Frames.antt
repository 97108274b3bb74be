-- A stream of frames: each a body of 1 to 2,048 bytes after its length, two bytes with the high one first.
-- All is said of the bytes of the stream. How they are cut into pieces when they are read is no matter of it,
-- and what stands in a body is no matter of this file.
use Rattle.std.specs.Prelude.{ℕ, zero, suc, ◌≡◌, ◌<◌, ◌^◌, ◌&&◌, nat_le, Bool, true, false, Some, None, List, [], ◌∷◌, ◌++◌, length}
use Rattle.tp_names.specs.Bytes.{short_bytes}
use Rattle.tp_names.specs.Reading.{read_short, read_bytes}

-- ---- frames

abbrev pub is_frame_length : ℕ → Bool
is_frame_length n = nat_le 1 n && nat_le n 2048

abbrev pub frame_bytes : List ℕ → List ℕ
frame_bytes body = short_bytes (length body) ++ body

abbrev pub frames_bytes : List (List ℕ) → List ℕ
frames_bytes [] = []
frames_bytes (b ∷ bs) = frame_bytes b ++ frames_bytes bs

-- a frame may have this body
abbrev pub IsBody : List ℕ → Type 0
IsBody body = is_frame_length (length body) ≡ true

abbrev pub AreBodies : List (List ℕ) → Type 0
AreBodies [] = Unit {0}
AreBodies (b ∷ bs) = IsBody b × AreBodies bs

-- the bytes are the frames of these bodies, one after the other
pub record AreFrames (bytes : List ℕ) (bodies : List (List ℕ)) : Type 0 where
  pub each : AreBodies bodies
  pub is : bytes ≡ frames_bytes bodies

-- a length that no frame has comes next in the bytes
pub record BeginsBad (bytes : List ℕ) : Type 0 where
  pub number : ℕ
  pub rest : List ℕ
  pub small : number < 2 ^ 16
  pub bad : is_frame_length number ≡ false
  pub is : bytes ≡ short_bytes number ++ rest

-- ---- what comes next in bytes

pub data Next : Type 0 where
  -- neither a whole frame nor a bad length
  Part : Next
  -- a frame with this body, and what stands after it
  Whole : List ℕ → List ℕ → Next
  Bad : Next

abbrev pub next_in : List ℕ → Next
next_in bytes = elim (read_short bytes) [
  | None ↦ Part
  | Some p ↦ elim (is_frame_length p.0) [
    | false ↦ Bad
    | true ↦ elim (read_bytes p.0 p.1) [ None ↦ Part | Some q ↦ Whole q.0 q.1 ]
  ]
]

-- a whole frame or a bad length comes next, so that no more bytes are needed to tell which
abbrev pub is_next : Next → Bool
is_next Part = false
is_next (Whole body rest) = true
is_next Bad = true

-- ---- a whole stream

-- what stands after the last whole frame: nothing, part of a frame, or a length that none has
pub data Rest : Type 0 where
  Nothing : Rest
  Short : Rest
  Bad_length : Rest

pub record Stream : Type 0 where
  pub bodies : List (List ℕ)
  pub rest : Rest

abbrev pub with_body : List ℕ → Stream → Stream
with_body b s = record s { bodies = b ∷ s.bodies }

abbrev pub with_bodies : List (List ℕ) → Stream → Stream
with_bodies bs s = record s { bodies = bs ++ s.bodies }

abbrev pub ends_with : Rest → Stream
ends_with r = record { bodies = []; rest = r }

-- the frames of a stream, with fuel for as many as there are bytes
abbrev pub stream_from : ℕ → List ℕ → Stream
stream_from fuel [] = ends_with Nothing
stream_from zero (b ∷ bytes) = ends_with Short
stream_from (suc fuel) (b ∷ bytes) = elim (next_in (b ∷ bytes)) [
  | Part ↦ ends_with Short
  | Whole body rest ↦ with_body body (stream_from fuel rest)
  | Bad ↦ ends_with Bad_length
]

abbrev pub stream : List ℕ → Stream
stream bytes = stream_from (length bytes) bytes
