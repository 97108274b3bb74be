-- Bytes of a stream that were read and are still at hand, beside those that the source has left.
use Rattle.std.specs.Prelude.{ℕ, ◌≡◌, ◌+◌, ◌<◌, ◌≤◌, ◌==◌, ◌&&◌, not, Bool, true, Option, Some, None, List, [], ◌∷◌, ◌++◌, length, take, slice_index}
use Rattle.tp_schedule.specs.declared.line_end.LineEnd.{LineEnd}

-- the bytes at hand and those left after them, where the source tells them
abbrev pub together : List ℕ → Option (List ℕ) → Option (List ℕ)
together held None = None
together held (Some left) = Some (held ++ left)

-- nothing is left
abbrev pub IsAtEnd : Option (List ℕ) → Type 0
IsAtEnd None = Unit {0}
IsAtEnd (Some left) = left ≡ []

-- n bytes more are at hand: the first of those that were left
pub record Gains (held new : List ℕ) (left rest : Option (List ℕ)) (n : ℕ) : Type 0 where
  pub before : take (length held) new ≡ held
  pub count : length new ≡ length held + n
  pub same : together new rest ≡ together held left
  pub at_end : n ≡ 0 → IsAtEnd rest

-- there is no line feed among the bytes
abbrev pub no_feed : List ℕ → Bool
no_feed [] = true
no_feed (b ∷ bs) = not (b == 10) && no_feed bs

-- how the line at the front of the bytes at hand ends: at a line feed, with the input, or not before it is too long
abbrev pub EndsSo : LineEnd → List ℕ → Option (List ℕ) → Type 0
EndsSo (LineEnd.Feed at) held rest = (at < length held) × (no_feed (take at held) ≡ true) × (slice_index held at ≡ 10)
EndsSo LineEnd.Input held rest = (no_feed held ≡ true) × (length held ≤ 8193) × IsAtEnd rest
EndsSo LineEnd.Far held rest = (no_feed held ≡ true) × (8193 < length held)
