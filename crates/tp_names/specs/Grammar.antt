-- What it means that bytes are the text of a value of some sort, whatever the sort: by how its values are written and read.
-- Here are also the places of bytes that are no text, and the two laws that a sort of texts is to meet.
use Rattle.std.specs.Prelude.{ℕ, ◌≡◌, ◌≤◌, Some, List, [], ◌++◌, length, take}
use Rattle.tp_names.specs.declared.bad_bytes.RecordFault.{RecordFault}
use Rattle.tp_names.specs.Reading.{Reader}
use Rattle.tp_names.specs.Places.{AreBytes}

-- the bytes of a value, and how a value is read from the front of bytes
pub record Grammar (A : Type 0) : Type 0 where
  pub bytes : A → List ℕ
  pub reader : Reader A

-- the value is read back from its bytes: its numbers, names and lists are within their bounds
abbrev pub HasText : {A : Type 0} → Grammar A → A → Type 0
HasText g v = g.reader (g.bytes v) ≡ Some (v, [])

abbrev pub IsText : {A : Type 0} → Grammar A → A → List ℕ → Type 0
IsText g v text = HasText g v × (g.bytes v ≡ text)

-- the bytes begin with the text of the value, which has that length
abbrev pub Begins : {A : Type 0} → Grammar A → A → ℕ → List ℕ → Type 0
Begins g v n bytes = (n ≤ length bytes) × IsText g v (take n bytes)

-- with other bytes after them they are a text
abbrev pub IsOpen : {A : Type 0} → Grammar A → List ℕ → Type 0
IsOpen {A} g bytes = (v : A) × (rest : List ℕ) × AreBytes rest × IsText g v (bytes ++ rest)

-- no text stands at the front, and so many bytes are the most that stand at the front of some text
pub record IsBadAt {A : Type 0} (g : Grammar A) (bytes : List ℕ) (at : ℕ) : Type 0 where
  pub no_text : (v : A) (n : ℕ) → Begins g v n bytes → ⊥
  pub within : at ≤ length bytes
  pub reached : IsOpen g (take at bytes)
  pub most : (n : ℕ) → n ≤ length bytes → IsOpen g (take n bytes) → n ≤ at

-- what a decoder answers in place of a value
abbrev pub IsFaultOf : {A : Type 0} → Grammar A → List ℕ → RecordFault → Type 0
IsFaultOf g bytes (RecordFault.BadRecord at) = IsBadAt g bytes at
IsFaultOf g bytes RecordFault.NoMemory = Unit {0}

-- ---- what a sort of texts is to meet

-- a text has one value, whatever follows it
abbrev pub IsReadBack : {A : Type 0} → Grammar A → Type 0
IsReadBack {A} g = (v : A) (rest : List ℕ) → HasText g v → g.reader (g.bytes v ++ rest) ≡ Some (v, rest)

-- and what is read from bytes is a text
abbrev pub IsWritten : {A : Type 0} → Grammar A → Type 0
IsWritten {A} g = (v : A) (bytes rest : List ℕ) → AreBytes bytes → g.reader bytes ≡ Some (v, rest) → HasText g v × (bytes ≡ g.bytes v ++ rest)

-- no text is a proper front of another
abbrev pub IsPrefixFree : {A : Type 0} → Grammar A → Type 0
IsPrefixFree {A} g = (v w : A) (rest : List ℕ) → HasText g v → HasText g w → g.bytes v ++ rest ≡ g.bytes w → rest ≡ []

pub record IsGrammar {A : Type 0} (g : Grammar A) : Type 0 where
  pub read_back : IsReadBack g
  pub written : IsWritten g
  pub prefix_free : IsPrefixFree g
