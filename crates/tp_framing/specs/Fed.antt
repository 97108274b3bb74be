-- How far a reader of frames has come in its stream: how many bytes it handed out, lengths included, and which it was fed and has not handed out.
use Rattle.std.specs.Prelude.{ℕ, ◌+◌, ◌≡◌, Option, Some, None, Result, Ok, Err, List, [], ◌∷◌, ◌++◌, length}
use Rattle.std.specs.Borrow.{Bor}
use Rattle.tp_framing.specs.declared.bad_frame.BadFrame.{BadFrame}
use Rattle.tp_framing.specs.Frames.{Part, Whole, Bad, next_in, Rest, Nothing, Short, frame_bytes, frames_bytes, IsBody, AreBodies}

pub record Fed : Type 0 where
  pub handed : ℕ
  pub pending : List ℕ

abbrev pub fresh : Fed
fresh = record { handed = 0; pending = [] }

-- all bytes that were fed so far
abbrev pub fed_so_far : Fed → ℕ
fed_so_far f = f.handed + length f.pending

abbrev pub with_piece : Fed → List ℕ → Fed
with_piece f piece = record f { pending = f.pending ++ piece }

-- the body was handed out: its frame came next
pub record HandsOut (old : Fed) (body : List ℕ) (new : Fed) : Type 0 where
  pub sound : IsBody body
  pub pending : old.pending ≡ frame_bytes body ++ new.pending
  pub handed : new.handed ≡ old.handed + length (frame_bytes body)

-- where a whole frame comes next it is handed out, and else nothing is
abbrev pub after_next : Fed → Fed
after_next f = elim (next_in f.pending) [
  | Part ↦ f
  | Whole body rest ↦ record { handed = f.handed + length (frame_bytes body); pending = rest }
  | Bad ↦ f
]

-- what asking for the next frame answers
abbrev pub Answers : Fed → Result (Option (Bor (List ℕ))) BadFrame → Type 0
Answers f (Ok None) = next_in f.pending ≡ Part
Answers f (Ok (Some body)) = next_in f.pending ≡ Whole body.now (after_next f).pending
Answers f (Err e) = (next_in f.pending ≡ Bad) × (e.at ≡ f.handed)

-- ---- whole runs

-- a piece that was fed, or a body that was handed out
pub data Step : Type 0 where
  Piece : List ℕ → Step
  Body : List ℕ → Step

-- all bytes that were fed
abbrev pub fed_in : List Step → List ℕ
fed_in [] = []
fed_in (Piece bytes ∷ steps) = bytes ++ fed_in steps
fed_in (Body body ∷ steps) = fed_in steps

-- all bodies that were handed out
abbrev pub bodies_in : List Step → List (List ℕ)
bodies_in [] = []
bodies_in (Piece bytes ∷ steps) = bodies_in steps
bodies_in (Body body ∷ steps) = body ∷ bodies_in steps

-- these steps, in this order, lead from one to the other
abbrev pub Leads : Fed → List Step → Fed → Type 0
Leads f [] g = f ≡ g
Leads f (Piece bytes ∷ steps) g = Leads (with_piece f bytes) steps g
Leads f (Body body ∷ steps) g = (next : Fed) × HandsOut f body next × Leads next steps g

-- the bytes are the frames of the bodies, and then what is pending
pub record IsSplit (bytes : List ℕ) (bodies : List (List ℕ)) (f : Fed) : Type 0 where
  pub each : AreBodies bodies
  pub is : bytes ≡ frames_bytes bodies ++ f.pending
  pub handed : f.handed ≡ length (frames_bytes bodies)

-- a whole frame comes next
pub record HasMore (f : Fed) : Type 0 where
  pub body : List ℕ
  pub rest : List ℕ
  pub next : next_in f.pending ≡ Whole body rest

-- what stands after the last whole frame, where no bad length does
abbrev pub rest_of : List ℕ → Rest
rest_of [] = Nothing
rest_of (b ∷ bytes) = Short
