-- What the bytes of a log stand for: a list of bodies. It knows no record: a body is any bytes, from one to 65,535 of them.
-- The file is four letters, a selector, and bodies after open gates up to the first gate that is closed. Where the
-- selector says so, the bodies stand further back, at a place that the last eight bytes tell.
use Rattle.std.specs.Prelude.{◌≡◌, ◌≢◌, ◌⊎◌, ◌≤◌, ◌<◌, ◌^◌, ℕ, ◌+◌, ◌/◌, ◌%◌, List, [], ◌∷◌, ◌++◌, length, take, drop}
use Rattle.std.specs.List.{AllByRecursion}
use Rattle.std.specs.Int.{to_be_bytes, w64}

abbrev pub IsBody : List ℕ → Type 0
IsBody body = (0 < length body) × (length body < 2 ^ 16)

-- its length in two bytes, and the body
abbrev pub counted : List ℕ → List ℕ
counted body = length body / 256 ∷ length body % 256 ∷ body

-- bodies, each after an open gate
abbrev pub blocks : List (List ℕ) → List ℕ
blocks [] = []
blocks (body ∷ bodies) = 1 ∷ counted body ++ blocks bodies

-- the place of the gate after these bodies, where they stand at the front
abbrev pub place_behind : List (List ℕ) → ℕ
place_behind bodies = 5 + length (blocks bodies)

-- the most bytes that a log may have up to its closing gate, that one included
abbrev pub most_bytes : ℕ
most_bytes = 268435456

-- four letters and the selector
abbrev pub head : ℕ → List ℕ
head selector = 79 ∷ 84 ∷ 80 ∷ 76 ∷ selector ∷ []

-- The file once a body is forced after the closing gate at this place. The gate is open, after it stand the body and the
-- next closing gate, and the rest of the file is what it was.
abbrev pub forced_bytes : ℕ → List ℕ → List ℕ → List ℕ
forced_bytes gate body file = take gate file ++ (1 ∷ ((counted body ++ 0 ∷ []) ++ drop (gate + 4 + length body) file))

-- The file once bodies are forced one after the other, the first after the closing gate at this place.
abbrev pub settled_bytes : ℕ → List (List ℕ) → List ℕ → List ℕ
settled_bytes gate [] file = file
settled_bytes gate (body ∷ bodies) file = settled_bytes (gate + 3 + length body) bodies (forced_bytes gate body file)

-- the bodies stand at the front, then a gate that is closed, then any rest
pub record StandsInFront (file : List ℕ) (bodies : List (List ℕ)) : Type 0 where
  pub selector : ℕ
  pub gate : ℕ
  pub rest : List ℕ
  pub whole : file ≡ head selector ++ blocks bodies ++ gate ∷ rest
  pub selects : selector ≢ 2
  pub closed : gate ≢ 1
  pub each : AllByRecursion IsBody bodies

-- The bodies stand at a place that the last eight bytes tell, after as many bytes as they would need in front.
pub record StandsBehind (file : List ℕ) (bodies : List (List ℕ)) : Type 0 where
  pub front : List ℕ
  pub gate : ℕ
  pub rest : List ℕ
  pub whole : file ≡ head 2 ++ front ++ blocks bodies ++ gate ∷ rest ++ to_be_bytes w64 (5 + length front)
  pub fits : length (blocks bodies) + 1 ≤ length front
  pub closed : gate ≢ 1
  pub each : AllByRecursion IsBody bodies

-- the file stands for these bodies, whatever stands after them
abbrev pub StandsFor : List ℕ → List (List ℕ) → Type 0
StandsFor file bodies = StandsInFront file bodies ⊎ StandsBehind file bodies

-- for the one list or for the other
abbrev pub StandsForEither : List (List ℕ) → List (List ℕ) → List ℕ → Type 0
StandsForEither before after file = StandsFor file before ⊎ StandsFor file after
