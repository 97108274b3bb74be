-- The text of a whole log: what bytes stand for which records, with one or two generations of the text.
-- A relation first, then the function that reads it and names the place of what is foreign; that the two agree is a law.
-- What may follow what is no matter of this file.
use Rattle.std.specs.Prelude.{ℕ, zero, suc, ◌+◌, ◌-◌, ◌==◌, ◌≡◌, ◌≤◌, ◌≢◌, ◌⊎◌, ◌<◌, ◌^◌, ◌&&◌, nat_le, Bool, true, false, Option, Some, None, List, [], ◌∷◌, ◌++◌, length, take, drop}
use Rattle.tp_names.specs.Same.{is_name}
use Rattle.tp_names.specs.Bytes.{short_bytes, long_bytes}
use Rattle.tp_names.specs.Reading.{read_bytes, number_from, then_read, read_short}
use Rattle.tp_logrec.specs.declared.record.LogRec.{LogRec}
use Rattle.tp_logrec.specs.declared.record.LogVersion.{LogVersion}
use Rattle.tp_logrec.specs.RecordText.{record_bytes}
use Rattle.tp_logrec.specs.RecordReading.{record_in, record_grammar}
use Rattle.tp_names.specs.Grammar.{HasText}

-- ---- bodies after gates of 1

abbrev pub framed : List ℕ → List ℕ
framed body = short_bytes (length body) ++ body

-- the first body of a log of version 2, which is no record
abbrev pub version_mark : List ℕ
version_mark = 7 ∷ 2 ∷ []

abbrev pub version_text : LogVersion → List ℕ
version_text LogVersion.One = []
version_text LogVersion.Two = 1 ∷ framed version_mark

abbrev pub records_text : LogVersion → List LogRec → List ℕ
records_text ver [] = []
records_text ver (r ∷ rs) = 1 ∷ framed (record_bytes ver r) ++ records_text ver rs

-- from the first gate up to the closing gate
abbrev pub log_text : LogVersion → List LogRec → List ℕ
log_text ver rs = version_text ver ++ records_text ver rs

-- ---- the relation

-- each record has a text in that version, and two bytes tell how long it is
pub record HasBody (ver : LogVersion) (r : LogRec) : Type 0 where
  pub text : HasText (record_grammar ver) r
  pub short : length (record_bytes ver r) < 2 ^ 16

abbrev pub HaveBodies : LogVersion → List LogRec → Type 0
HaveBodies ver [] = Unit {0}
HaveBodies ver (r ∷ rs) = HasBody ver r × HaveBodies ver rs

-- the bytes are the records' text, a gate that is not 1, and any rest
pub record IsListed (bytes : List ℕ) (rs : List LogRec) : Type 0 where
  pub version : LogVersion
  pub gate : ℕ
  pub rest : List ℕ
  pub bodies : HaveBodies version rs
  pub closed : gate ≢ 1
  pub is : bytes ≡ log_text version rs ++ gate ∷ rest

-- `OTPL`
abbrev pub log_name : List ℕ
log_name = 79 ∷ 84 ∷ 80 ∷ 76 ∷ []

-- the front text counts
pub record IsFront (bytes : List ℕ) (rs : List LogRec) : Type 0 where
  pub selector : ℕ
  pub text : List ℕ
  pub other : selector ≢ 2
  pub is : bytes ≡ log_name ++ selector ∷ text
  pub listed : IsListed text rs

-- the text at the place counts that the last eight bytes tell; it would fit before that place
pub record IsBack (bytes : List ℕ) (rs : List LogRec) : Type 0 where
  pub front : List ℕ
  pub version : LogVersion
  pub gate : ℕ
  pub rest : List ℕ
  pub bodies : HaveBodies version rs
  pub closed : gate ≢ 1
  pub is : bytes ≡ log_name ++ 2 ∷ front ++ log_text version rs ++ (gate ∷ rest) ++ long_bytes (5 + length front)
  pub fits : suc (length (log_text version rs)) ≤ length front

-- the bytes are a log of these records, oldest first
abbrev pub IsLog : List ℕ → List LogRec → Type 0
IsLog bytes rs = IsFront bytes rs ⊎ IsBack bytes rs

-- ---- the reading

-- a record, and the place of its gate byte in the file
pub record Placed : Type 0 where
  pub place : ℕ
  pub rec : LogRec

abbrev pub recs : List Placed → List LogRec
recs [] = []
recs (p ∷ ps) = p.rec ∷ recs ps

pub data LogReading : Type 0 where
  -- what stands at the place is foreign
  Foreign : ℕ → LogReading
  -- the version, the records, and the place of the closing gate
  Reads : LogVersion → List Placed → ℕ → LogReading

abbrev pub with_record : Placed → LogReading → LogReading
with_record p (Foreign at) = Foreign at
with_record p (Reads ver ps gate) = Reads ver (p ∷ ps) gate

-- a body after its length, and what stands after it
abbrev pub body_in : List ℕ → Option (List ℕ × List ℕ)
body_in bytes = then_read (read_short bytes) read_bytes

-- the bodies from a gate on, with fuel for as many as there are bytes
abbrev pub records_from : ℕ → LogVersion → ℕ → List ℕ → LogReading
records_from fuel ver at [] = Foreign at
records_from zero ver at (b ∷ bytes) = Foreign at
records_from (suc fuel) ver at (b ∷ bytes) = elim (b == 1) [
  | false ↦ Reads ver [] at
  | true ↦ elim (body_in bytes) [
    | None ↦ Foreign at
    | Some p ↦ elim (record_in ver p.0) [
      | None ↦ Foreign at
      | Some r ↦ with_record (record { place = at; rec = r }) (records_from fuel ver (at + 3 + length p.0) p.1)
    ]
  ]
]

-- the text of version 2 begins with its mark
abbrev pub is_marked : List ℕ → Bool
is_marked bytes = is_name (take 5 bytes) (version_text LogVersion.Two)

abbrev pub listed_from : ℕ → List ℕ → LogReading
listed_from at bytes = elim (is_marked bytes) [
  | true ↦ records_from (length bytes) LogVersion.Two (at + 5) (drop 5 bytes)
  | false ↦ records_from (length bytes) LogVersion.One at bytes
]

-- a text that is longer than the room before its place is foreign
abbrev pub fitting : ℕ → LogReading → LogReading
fitting q (Foreign at) = Foreign at
fitting q (Reads ver ps gate) = elim (nat_le (suc gate - q) (q - 5)) [ true ↦ Reads ver ps gate | false ↦ Foreign 4 ]

abbrev pub last_place : List ℕ → ℕ
last_place bytes = elim (number_from 8 0 (drop (length bytes - 8) bytes)) [ None ↦ 0 | Some p ↦ p.0 ]

abbrev pub back_reading : List ℕ → ℕ → LogReading
back_reading bytes q = elim (nat_le 5 q && nat_le (q + 9) (length bytes)) [
  | false ↦ Foreign 4
  | true ↦ fitting q (listed_from q (drop q (take (length bytes - 8) bytes)))
]

abbrev pub selected : ℕ → List ℕ → LogReading
selected selector bytes = elim (selector == 2) [ true ↦ back_reading bytes (last_place bytes) | false ↦ listed_from 5 (drop 5 bytes) ]

abbrev pub read_log : List ℕ → LogReading
read_log bytes = elim (is_name (take 4 bytes) log_name) [
  | false ↦ Foreign 0
  | true ↦ elim (drop 4 bytes) [ [] ↦ Foreign 0 | b ∷ rest ↦ selected b bytes ]
]

-- the bytes are read as a log of these records
pub record IsReadAs (bytes : List ℕ) (rs : List LogRec) : Type 0 where
  pub version : LogVersion
  pub placed : List Placed
  pub gate : ℕ
  pub reads : read_log bytes ≡ Reads version placed gate
  pub records : recs placed ≡ rs
