-- A transcript out of its bytes: each line of them is the text of a line of a transcript.
use Rattle.std.specs.Prelude.{ℕ, suc, ◌≡◌, ◌≢◌, ◌<◌, ◌==◌, ◌&&◌, Bool, true, false, Result, Ok, Err, List, [], ◌∷◌, ◌++◌, length, map, slice_index}
use Rattle.tp_model.specs.declared.out_line.OutLine.{OutLine}
use Rattle.tp_model.specs.declared.verdict.Why.{Why}
use Rattle.tp_model.specs.LineReading.{onto_first}
use Rattle.tp_model.specs.OutText.{out_text}
use Rattle.tp_transcript.specs.OutHasText.{out_has_text}
use Rattle.tpdraw.specs.declared.status.Status.{Status}

-- ---- bytes cut into lines, each of which ends with a line feed but maybe the last

abbrev pub lines_in : List ℕ → List (List ℕ)
lines_in [] = []
lines_in (b ∷ bs) = elim (b == 10) [ true ↦ [] ∷ lines_in bs | false ↦ onto_first b (lines_in bs) ]

-- the first line, and what stands after it
pub record IsNext (bytes text more : List ℕ) : Type 0 where
  pub lines : lines_in bytes ≡ text ∷ lines_in more
  pub shorter : length more < length bytes

abbrev pub HasNone : List ℕ → Type 0
HasNone bytes = (k : ℕ) → k < length bytes → slice_index bytes k ≢ 10

pub record IsFirstFeed (bytes : List ℕ) (at : ℕ) : Type 0 where
  pub within : at < length bytes
  pub feed : slice_index bytes at ≡ 10
  pub before : (k : ℕ) → k < at → slice_index bytes k ≢ 10

-- ---- what the bytes are

abbrev pub have_text : List OutLine → Bool
have_text [] = true
have_text (o ∷ os) = out_has_text o && have_text os

-- the text of these lines, each of which has one
pub record IsTranscript (bytes : List ℕ) (os : List OutLine) : Type 0 where
  pub texts : map out_text os ≡ lines_in bytes
  pub good : have_text os ≡ true

-- The line of that number, from 1, is the text of no line of a transcript; those before it are texts of some.
pub record IsBadAt (bytes : List ℕ) (at : ℕ) : Type 0 where
  pub before : List OutLine
  pub bad : List ℕ
  pub after : List (List ℕ)
  pub lines : lines_in bytes ≡ map out_text before ++ bad ∷ after
  pub good : have_text before ≡ true
  pub none : (o : OutLine) → out_has_text o ≡ true → out_text o ≢ bad
  pub number : at ≡ suc (length before)

-- ---- what is answered

-- the line that has this text, or that there is none, at that number; out of memory says nothing
abbrev pub ReadsLine : ℕ → List ℕ → Result OutLine Status → Type 0
ReadsLine at text (Ok o) = (out_has_text o ≡ true) × (out_text o ≡ text)
ReadsLine at text (Err Status.Ok) = ⊥
ReadsLine at text (Err Status.Usage) = ⊥
ReadsLine at text (Err (Status.BadInput n why)) = (n ≡ at) × (why ≡ Why.Word) × ((o : OutLine) → out_has_text o ≡ true → out_text o ≢ text)
ReadsLine at text (Err (Status.ReadFault faults)) = ⊥
ReadsLine at text (Err (Status.WriteFault faults)) = ⊥
ReadsLine at text (Err Status.NoMemory) = Unit {0}

-- why they are not read
abbrev pub IsUnread : List ℕ → Status → Type 0
IsUnread bytes Status.Ok = ⊥
IsUnread bytes Status.Usage = ⊥
IsUnread bytes (Status.BadInput at why) = IsBadAt bytes at × (why ≡ Why.Word)
IsUnread bytes (Status.ReadFault faults) = ⊥
IsUnread bytes (Status.WriteFault faults) = ⊥
IsUnread bytes Status.NoMemory = Unit {0}
