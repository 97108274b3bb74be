-- How much of what was to be written is written.
-- What the bytes mean is no matter of this file.
use Rattle.std.specs.Prelude.{ℕ, ◌≡◌, Option, Some, List, ◌++◌}

-- the first is a prefix of the second
abbrev pub IsPrefix : List ℕ → List ℕ → Type 0
IsPrefix xs ys = (more : List ℕ) × (ys ≡ xs ++ more)

-- some of it was written, after the bytes that were written before
abbrev pub WritesPrefix : List ℕ → List ℕ → Option (List ℕ) → Type 0
WritesPrefix before all new = (part : List ℕ) × IsPrefix part all × (new ≡ Some (before ++ part))
