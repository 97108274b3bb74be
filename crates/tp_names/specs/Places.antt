-- What it means that a scan is right: it gives what its reader gives, and where the reader gives nothing, it tells the place.
-- A place is told by the bytes left after it; the bytes before it are the most that stand at the front of something read.
use Rattle.std.specs.Prelude.{ℕ, ◌≡◌, ◌≤◌, ◌<◌, Some, None, Ok, Err, List, [], ◌∷◌, ◌++◌, length}
use Rattle.tp_names.specs.Reading.{Reader}
use Rattle.tp_names.specs.Scanning.{Scan}

-- each is a byte
abbrev pub AreBytes : List ℕ → Type 0
AreBytes [] = Unit {0}
AreBytes (b ∷ bytes) = (b < 256) × AreBytes bytes

-- what was read is a text in front, which is read so whatever follows it
pub record Front {A : Type 0} (r : Reader A) (bytes : List ℕ) (v : A) (rest : List ℕ) : Type 0 where
  pub text : List ℕ
  pub parts : bytes ≡ text ++ rest
  pub again : (more : List ℕ) → r (text ++ more) ≡ Some (v, more)

-- what is read hangs on the bytes that are taken, and on none after them
pub record IsSteady {A : Type 0} (r : Reader A) : Type 0 where
  pub fronts : (bytes : List ℕ) (v : A) (rest : List ℕ) → r bytes ≡ Some (v, rest) → Front r bytes v rest

-- bytes of which something is read
pub record Sample {A : Type 0} (r : Reader A) : Type 0 where
  pub value : A
  pub text : List ℕ
  pub bytes : AreBytes text
  pub reads : r text ≡ Some (value, [])

-- nothing is read. With other bytes after the front something is, and with so many fewer left nothing ever is
pub record IsStuck {A : Type 0} (r : Reader A) (bytes : List ℕ) (left : ℕ) : Type 0 where
  pub none : r bytes ≡ None
  pub front : List ℕ
  pub rest : List ℕ
  pub parts : bytes ≡ front ++ rest
  pub left_is : length rest ≡ left
  pub more : List ℕ
  pub more_bytes : AreBytes more
  pub value : A
  pub reached : r (front ++ more) ≡ Some (value, [])
  pub most : (p q x : List ℕ) (v : A) (y : List ℕ) → AreBytes x → bytes ≡ p ++ q → r (p ++ x) ≡ Some (v, y) → left ≤ length q

pub record IsScan {A : Type 0} (r : Reader A) (s : Scan A) : Type 0 where
  pub steady : IsSteady r
  pub sample : Sample r
  pub found : (bytes : List ℕ) (v : A) (rest : List ℕ) → s bytes ≡ Ok (v, rest) → r bytes ≡ Some (v, rest)
  pub stuck : (bytes : List ℕ) (left : ℕ) → AreBytes bytes → s bytes ≡ Err left → IsStuck r bytes left

-- what is read from bytes is written so
pub record IsWrittenBy {A : Type 0} (write : A → List ℕ) (r : Reader A) : Type 0 where
  pub spelled : (bytes : List ℕ) (v : A) (rest : List ℕ) → AreBytes bytes → r bytes ≡ Some (v, rest) → bytes ≡ write v ++ rest
