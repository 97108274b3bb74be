-- What a read does to the bytes that a source has left, where it tells them.
-- This is a model of a source: that a real stream follows it is no claim of this crate.
use Rattle.std.specs.Prelude.{ℕ, ◌≡◌, ◌≤◌, ◌<◌, Option, Some, None, List, [], length, take, drop}

-- n bytes of those left now stand at the front of the buffer, and no others are gone; none is taken into a buffer with
-- room exactly where none was left
pub record Takes (left : List ℕ) (room : ℕ) (buf : List ℕ) (n : ℕ) (new : Option (List ℕ)) : Type 0 where
  pub bytes : take n buf ≡ take n left
  pub within : n ≤ length left
  pub rest : new ≡ Some (drop n left)
  pub at_end : n ≡ 0 → 0 < room → left ≡ []

-- A source that tells what is left goes on telling it, and one that doesn't never does.
abbrev pub ReadsSome : Option (List ℕ) → Option (List ℕ) → ℕ → List ℕ → ℕ → Type 0
ReadsSome None new room buf n = new ≡ None
ReadsSome (Some left) new room buf n = Takes left room buf n new
