-- What it means that a value is read back from its bytes, and what is asked of the parts of a record.
use Rattle.std.specs.Prelude.{ℕ, ◌≡◌, Some, List, ◌++◌}
use Rattle.tp_names.specs.Reading.{Reader}
use Rattle.tp_names.specs.Grammar.{HasText}
use Rattle.tp_logrec.specs.declared.record.LogRec.{LogRec}
use Rattle.tp_logrec.specs.declared.record.LogVersion.{LogVersion}
use Rattle.tp_logrec.specs.RecordReading.{record_grammar}

-- the text is read as the value, whatever stands after it
pub record Takes {A : Type 0} (r : Reader A) (text : List ℕ) (v : A) : Type 0 where
  pub reads : (rest : List ℕ) → r (text ++ rest) ≡ Some (v, rest)

-- some bytes are read as the value
pub record IsGiven {A : Type 0} (r : Reader A) (v : A) : Type 0 where
  pub bytes : List ℕ
  pub rest : List ℕ
  pub gives : r bytes ≡ Some (v, rest)

-- the record has a text in a log of that version
pub record HasRecordText (ver : LogVersion) (v : LogRec) : Type 0 where
  pub text : HasText (record_grammar ver) v

-- as many children as fit in a record
abbrev pub most_children : LogVersion → ℕ
most_children LogVersion.One = 32
most_children LogVersion.Two = 256
