-- The bodies of a log of records, and the records of bodies: each body is the text of a record, in the version that the
-- first body tells. It knows no file: where bodies stand in the bytes of a log is said below, for bodies of any bytes.
use Rattle.std.specs.Prelude.{◌≡◌, ◌+◌, ◌||◌, ℕ, Bool, true, false, Option, Some, None, List, [], ◌∷◌, ◌++◌, length}
use Rattle.std.specs.List.{AllByRecursion}
use Rattle.tp_names.specs.Same.{is_name}
use Rattle.tp_names.specs.Grammar as grammar
use Rattle.tp_logrec.specs.declared.record.LogRec.{LogRec}
use Rattle.tp_logrec.specs.declared.record.LogVersion.{LogVersion}
use Rattle.tp_logrec.specs.RecordText.{record_bytes}
use Rattle.tp_logrec.specs.RecordReading.{record_in, record_grammar}
use Rattle.tp_logrec.specs.LogText.{version_mark}
use Rattle.tp_journal.specs.Log.{head, blocks}
use Rattle.tp_journal.specs.declared.receipts.Receipt.{Receipt}

-- ---- records as bodies

-- a log that is wide is of version 2
abbrev pub version_of : Bool → LogVersion
version_of false = LogVersion.One
version_of true = LogVersion.Two

-- the record has a text in that version
abbrev pub HasText : Bool → LogRec → Type 0
HasText wide rec = grammar.HasText (record_grammar (version_of wide)) rec

abbrev pub text : Bool → LogRec → List ℕ
text wide rec = record_bytes (version_of wide) rec

abbrev pub texts : Bool → List LogRec → List (List ℕ)
texts wide [] = []
texts wide (r ∷ rs) = text wide r ∷ texts wide rs

-- the mark of version 2 and no records
abbrev pub marks : Bool → List (List ℕ)
marks false = []
marks true = version_mark ∷ []

-- what stands in a log of these records
abbrev pub bodies_of : Bool → List LogRec → List (List ℕ)
bodies_of wide rs = marks wide ++ texts wide rs

-- the file that has these records in that version, and nothing after its closing gate
abbrev pub log_bytes : Bool → List LogRec → List ℕ
log_bytes wide rs = head 1 ++ blocks (bodies_of wide rs) ++ 0 ∷ []

-- ---- bodies as records

abbrev pub is_mark : List ℕ → Bool
is_mark body = is_name body version_mark

abbrev pub is_some : Option LogRec → Bool
is_some None = false
is_some (Some r) = true

abbrev pub is_text : Bool → List ℕ → Bool
is_text wide body = is_some (record_in (version_of wide) body)

-- Which body may come next: the first may be the mark, or a text of version 1; every other is a text in the version that
-- the first tells.
abbrev pub record_body : List (List ℕ) → List ℕ → Bool
record_body [] body = is_mark body || is_text false body
record_body (first ∷ more) body = is_text (is_mark first) body

-- ---- their places

-- the places of records whose first gate stands here
abbrev pub places_from : ℕ → Bool → List LogRec → List ℕ
places_from at wide [] = []
places_from at wide (r ∷ rs) = at ∷ places_from (at + 3 + length (text wide r)) wide rs

-- after the head of the file, and after the mark
abbrev pub first_place : Bool → ℕ
first_place false = 5
first_place true = 10

abbrev pub receipts_from : ℕ → Bool → List LogRec → List Receipt
receipts_from at wide [] = []
receipts_from at wide (r ∷ rs) = record { place = at; rec = r } ∷ receipts_from (at + 3 + length (text wide r)) wide rs

-- the records with their places
abbrev pub placed : Bool → List LogRec → List Receipt
placed wide rs = receipts_from (first_place wide) wide rs

-- ---- what a list of records in memory keeps

pub record IsPlaced (wide : Bool) (recs : List LogRec) (places : List ℕ) : Type 0 where
  pub texts : AllByRecursion (HasText wide) recs
  pub places_are : places ≡ places_from (first_place wide) wide recs

pub record Listed : Type 0 where
  pub wide : Bool
  pub recs : List LogRec

-- what bodies are the texts of
abbrev pub wide_of : List (List ℕ) → Bool
wide_of [] = false
wide_of (first ∷ more) = is_mark first

abbrev pub with_rec : Option LogRec → List LogRec → List LogRec
with_rec None rs = rs
with_rec (Some r) rs = r ∷ rs

abbrev pub recs_in : Bool → List (List ℕ) → List LogRec
recs_in wide [] = []
recs_in wide (body ∷ bodies) = with_rec (record_in (version_of wide) body) (recs_in wide bodies)

abbrev pub recs_of : List (List ℕ) → List LogRec
recs_of bodies = recs_in (wide_of bodies) bodies

-- the bodies are the texts of their records, after the mark where the log is of version 2
pub record AreRecords (bodies : List (List ℕ)) : Type 0 where
  pub are : bodies ≡ bodies_of (wide_of bodies) (recs_of bodies)
  pub each : AllByRecursion (HasText (wide_of bodies)) (recs_of bodies)

-- what reading a body as a text finds
abbrev pub ReadsText : Bool → List ℕ → Option LogRec → Type 0
ReadsText wide body None = record_in (version_of wide) body ≡ None
ReadsText wide body (Some rec) = HasText wide rec × (text wide rec ≡ body)

-- after these bodies, that body is the text of the record
abbrev pub says_record : List (List ℕ) → List ℕ → LogRec → Type 0
says_record before body rec = HasText (wide_of before) rec × (text (wide_of before) rec ≡ body)
