-- No byte is foreign where bytes stand for records.
use Rattle.std.proofs.Common.{◌<◌, ◌^◌, ℕ, true, refl, ap, List, [], ◌∷◌, ◌++◌, length}
use Rattle.std.specs.List.{AllByRecursion}
use Rattle.tp_logrec.specs.declared.record.LogRec.{LogRec}
use Rattle.tp_logrec.specs.LogText.{version_mark}
use Rattle.tp_journal.specs.Foreign.{ArePassed, IsForeign}
use Rattle.tp_journal.specs.Log.{StandsFor}
use Rattle.tp_journal.specs.Records.{HasText, text, texts, bodies_of, record_body, is_some}
use Rattle.tp_journal.proofs.Exclusion.{stands_for_nothing}
use Rattle.tp_journal.proofs.RecordBodies.{text_is_read}

passed_on : (before : List (List ℕ)) (rs : List LogRec) → AllByRecursion (HasText true) rs → ArePassed record_body (version_mark ∷ before) (texts true rs)
passed_on before [] all = tt
passed_on before (r ∷ rs) all = (ap is_some (text_is_read true r all.0), passed_on (before ++ text true r ∷ []) rs all.1)

passed : (rs : List LogRec) → AllByRecursion (HasText true) rs → ArePassed record_body [] (bodies_of true rs)
passed rs all = (refl, passed_on [] rs all)

pub not_foreign : (file : List ℕ) (rs : List LogRec) (at : ℕ) → length file < 2 ^ 64 → StandsFor file (bodies_of true rs) → AllByRecursion (HasText true) rs → IsForeign record_body file at → ⊥
not_foreign file rs at small stands texts foreign = stands_for_nothing record_body file at (bodies_of true rs) small foreign stands (passed rs texts)
