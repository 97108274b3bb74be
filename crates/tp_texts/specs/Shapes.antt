-- What a record needs, besides numbers and names within their bounds, to have a text in a log: a branch in its key where it
-- must have one, a superior exactly where its key has a branch, a report where it is of damage, and no more children than a
-- text of that version counts.
use Rattle.std.specs.Prelude.{◌≡◌, ◌≤◌, Bool, true, false, Option, Some, None, List, [], ◌∷◌, length}
use Rattle.tp_names.specs.declared.identifiers.BranchId.{BranchId}
use Rattle.tp_names.specs.declared.identifiers.NodeKey.{NodeKey}
use Rattle.tp_names.specs.declared.identifiers.Addr.{Addr}
use Rattle.tp_names.specs.Reports.{is_report_none}
use Rattle.tp_logrec.specs.declared.record.LogRec.{LogRec}
use Rattle.tp_logrec.specs.declared.record.LogVersion.{LogVersion}
use Rattle.tp_texts.specs.Texts.{most_children}

abbrev pub is_there : Option BranchId → Bool
is_there None = false
is_there (Some b) = true

abbrev pub has_branch : NodeKey → Bool
has_branch k = is_there k.branch

abbrev pub has_superior : Option Addr → Bool
has_superior None = false
has_superior (Some a) = true

abbrev pub IsShaped : LogVersion → LogRec → Type 0
IsShaped ver (LogRec.Boot n) = Unit {0}
IsShaped ver (LogRec.Ready n k s cs) = (has_branch k ≡ true) × (length cs ≤ most_children ver)
IsShaped ver (LogRec.Heuristic n k o) = has_branch k ≡ true
IsShaped ver (LogRec.Commit n k s cs) = (has_superior s ≡ has_branch k) × (length cs ≤ most_children ver)
IsShaped ver (LogRec.Damage n k s o r cs) = (has_superior s ≡ has_branch k) × (is_report_none r ≡ false) × (length cs ≤ most_children ver)
IsShaped ver (LogRec.End n k o) = Unit {0}

abbrev pub AreShaped : LogVersion → List LogRec → Type 0
AreShaped ver [] = Unit {0}
AreShaped ver (r ∷ rs) = IsShaped ver r × AreShaped ver rs
