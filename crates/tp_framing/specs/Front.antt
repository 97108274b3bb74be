-- What the length at the front of bytes tells.
use Rattle.std.specs.Prelude.{ℕ, ◌+◌, ◌≡◌, ◌≤◌, Option, Some, None, Result, Ok, Err, List, ◌++◌, length, take, drop}
use Rattle.tp_framing.specs.declared.head.BadLength.{BadLength}
use Rattle.tp_framing.specs.Frames.{Part, Whole, Bad, next_in, frame_bytes, IsBody, BeginsBad}

-- a whole frame with a body of that length stands at the front
pub record HasWhole (bytes : List ℕ) (n : ℕ) : Type 0 where
  pub within : 2 + n ≤ length bytes
  pub body : IsBody (take n (drop 2 bytes))
  pub next : next_in bytes ≡ Whole (take n (drop 2 bytes)) (drop (2 + n) bytes)
  pub is : bytes ≡ frame_bytes (take n (drop 2 bytes)) ++ drop (2 + n) bytes

abbrev pub FrontIs : List ℕ → Result (Option ℕ) BadLength → Type 0
FrontIs bytes (Ok None) = next_in bytes ≡ Part
FrontIs bytes (Ok (Some n)) = HasWhole bytes n
FrontIs bytes (Err e) = (next_in bytes ≡ Bad) × BeginsBad bytes
