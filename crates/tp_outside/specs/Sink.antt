-- What a write does to the bytes that a sink has taken, where it tells them.
-- This is a model of a sink: that a real stream follows it is no claim of this crate.
use Rattle.std.specs.Prelude.{ℕ, ◌≡◌, Option, Some, None, List, ◌++◌, take}

-- The first n bytes of the piece stand after those from before. A sink that tells what was written goes on telling it,
-- and one that doesn't never does.
abbrev pub WritesSome : Option (List ℕ) → Option (List ℕ) → List ℕ → ℕ → Type 0
WritesSome None new piece n = new ≡ None
WritesSome (Some written) new piece n = new ≡ Some (written ++ take n piece)
