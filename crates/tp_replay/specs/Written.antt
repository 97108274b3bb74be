-- What is written of a text, where the sink tells it. Prefixes are those of tp_streams.
use Rattle.std.specs.Prelude.{ℕ, ◌≡◌, Option, Some, List, ◌++◌}

-- the text was written, but for the pending bytes at its end
abbrev pub WroteBut : List ℕ → List ℕ → List ℕ → Option (List ℕ) → Type 0
WroteBut before text pending new = (part : List ℕ) × (text ≡ part ++ pending) × (new ≡ Some (before ++ part))

-- ---- a whole run

-- a text of which that holds: where the sink tells what was written, just this text was written after it
pub record Writes (Tells : List ℕ → Type 0) (old new : Option (List ℕ)) : Type 0 where
  pub text : List ℕ
  pub tells : Tells text
  pub written : (before : List ℕ) → old ≡ Some before → new ≡ Some (before ++ text)

-- but for the pending bytes at its end
pub record WritesBut (Tells : List ℕ → Type 0) (pending : List ℕ) (old new : Option (List ℕ)) : Type 0 where
  pub text : List ℕ
  pub tells : Tells text
  pub wrote : (before : List ℕ) → old ≡ Some before → WroteBut before text pending new
