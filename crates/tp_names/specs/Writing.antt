-- What a call that appends bytes leaves where memory runs out: the bytes that were there, and perhaps more after them.
use Rattle.std.specs.Prelude.{ℕ, ◌≡◌, List, length, take}

-- what was there still stands first
abbrev pub Keeps : List ℕ → List ℕ → Type 0
Keeps old new = take (length old) new ≡ old
