-- What a whole stream is, by what comes next in it.
use Rattle.std.proofs.Common.{◌≡◌, ℕ, zero, suc, ◌<◌, ◌≤◌, List, [], ◌∷◌, ◌++◌, length, refl, sym, ◌∙◌, ap, arith, append_assoc}
use Rattle.std.specs.Int.{byte_at}
use Rattle.tp_framing.specs.Frames.{Next, Part, Whole, Bad, next_in, Short, Bad_length, Stream, with_body, with_bodies, ends_with, stream_from, stream, frame_bytes, frames_bytes, IsBody, AreBodies}
use Rattle.tp_framing.specs.Fed.{rest_of}
use Rattle.tp_framing.proofs.Fronts.{next_frame, next_shorter}

-- the stream where this comes next, and this is the stream after a frame
abbrev pub stream_by : Next → (List ℕ → Stream) → Stream
stream_by Part rest = ends_with Short
stream_by (Whole body bytes) rest = with_body body (rest bytes)
stream_by Bad rest = ends_with Bad_length

pub stream_from_by : (fuel b : ℕ) (bytes : List ℕ) → stream_from (suc fuel) (b ∷ bytes) ≡ stream_by (next_in (b ∷ bytes)) (stream_from fuel)
stream_from_by fuel b bytes = go (next_in (b ∷ bytes))
  where
    go : (n : Next) → elim n as (λ _. Stream) [ Part ↦ ends_with Short | Whole body rest ↦ with_body body (stream_from fuel rest) | Bad ↦ ends_with Bad_length ] ≡ stream_by n (stream_from fuel)
    go Part = refl
    go (Whole body rest) = refl
    go Bad = refl

-- with fuel enough, more makes no difference
pub stream_enough : (j k : ℕ) (bytes : List ℕ) → length bytes ≤ j → length bytes ≤ k → stream_from j bytes ≡ stream_from k bytes
stream_enough j k [] g h = refl
stream_enough zero k (b ∷ bytes) g h = absurd (omega arith)
stream_enough (suc j) zero (b ∷ bytes) g h = absurd (omega arith)
stream_enough (suc j) (suc k) (b ∷ bytes) g h =
    stream_from_by j b bytes ∙ go (next_in (b ∷ bytes)) refl (λ rest l. stream_enough j k rest (omega arith) (omega arith)) ∙ sym (stream_from_by k b bytes)
  where
    go : (n : Next) → next_in (b ∷ bytes) ≡ n → ((rest : List ℕ) → length rest < suc (length bytes) → stream_from j rest ≡ stream_from k rest)
        → stream_by n (stream_from j) ≡ stream_by n (stream_from k)
    go Part e same = refl
    go (Whole body rest) e same = ap (with_body body) (same rest (next_shorter (b ∷ bytes) body rest e))
    go Bad e same = refl

-- what comes next says what the stream is
pub stream_next : (b : ℕ) (bytes : List ℕ) → stream (b ∷ bytes) ≡ stream_by (next_in (b ∷ bytes)) stream
stream_next b bytes = stream_from_by (length bytes) b bytes ∙ go (next_in (b ∷ bytes)) refl
  where
    go : (n : Next) → next_in (b ∷ bytes) ≡ n → stream_by n (stream_from (length bytes)) ≡ stream_by n stream
    go Part e = refl
    go (Whole body rest) e =
        let l : length rest < suc (length bytes) = next_shorter (b ∷ bytes) body rest e in
        ap (with_body body) (stream_enough (length bytes) (length rest) rest (omega arith) (omega arith))
    go Bad e = refl

pub stream_frame : (body rest : List ℕ) → IsBody body → stream (frame_bytes body ++ rest) ≡ with_body body (stream rest)
stream_frame body rest sound =
    stream_next (byte_at 1 (length body)) (byte_at 0 (length body) ∷ body ++ rest) ∙ ap (λ n. stream_by n stream) (next_frame body rest sound)

pub stream_frames : (bodies : List (List ℕ)) (rest : List ℕ) → AreBodies bodies → stream (frames_bytes bodies ++ rest) ≡ with_bodies bodies (stream rest)
stream_frames [] rest each = refl
stream_frames (b ∷ bs) rest each =
    ap stream (append_assoc (frame_bytes b) (frames_bytes bs) rest)
    ∙ stream_frame b (frames_bytes bs ++ rest) each.0
    ∙ ap (with_body b) (stream_frames bs rest each.1)

pub stream_part : (bytes : List ℕ) → next_in bytes ≡ Part → stream bytes ≡ ends_with (rest_of bytes)
stream_part [] e = refl
stream_part (b ∷ bytes) e = stream_next b bytes ∙ ap (λ n. stream_by n stream) e

pub stream_bad : (bytes : List ℕ) → next_in bytes ≡ Bad → stream bytes ≡ ends_with Bad_length
stream_bad [] e = absurd (cc)
stream_bad (b ∷ bytes) e = stream_next b bytes ∙ ap (λ n. stream_by n stream) e
