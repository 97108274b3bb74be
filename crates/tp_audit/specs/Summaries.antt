-- What is kept of the records of one key. What it stands for is said in Verdicts and Doubts.
use Rattle.std.specs.Prelude.{◌||◌, true, false, Option, Some, None, List, [], ◌∷◌}
use Rattle.tp_names.specs.declared.identifiers.Addr.{Addr}
use Rattle.tp_names.specs.declared.outcome.Outcome.{Outcome}
use Rattle.tp_logrec.specs.declared.record.LogRec.{LogRec}
use Rattle.tp_logrec.specs.declared.owner.Owner.{Owner}
use Rattle.tp_logrec.specs.Order.{Life, is_commit, is_heuristic, last, holds}
use Rattle.tp_model.specs.Promises.{has_record}
use Rattle.tp_audit.specs.declared.summary.Summary.{Summary}
use Rattle.tp_audit.specs.Verdicts.{is_rollback}
use Rattle.tp_audit.specs.Doubts.{is_doubtful, superior_by, superior_from}

abbrev pub summary_of : List LogRec → Summary
summary_of rs = record {
  committed = has_record is_commit rs;
  rolled_back = has_record is_rollback rs;
  decided = has_record is_heuristic rs;
  doubtful = holds (last rs) is_doubtful;
  superior = superior_from None rs;
}

-- with one record more
abbrev pub summary_by : Summary → LogRec → Summary
summary_by s r = record {
  committed = s.committed || is_commit r;
  rolled_back = s.rolled_back || is_rollback r;
  decided = s.decided || is_heuristic r;
  doubtful = is_doubtful r;
  superior = superior_by s.superior r;
}

-- ---- what it says

abbrev pub settled_by : Summary → Option Outcome
settled_by s = elim s.decided [
  | true ↦ None
  | false ↦ elim s.committed [ true ↦ Some Outcome.Commit | false ↦ elim s.rolled_back [ true ↦ Some Outcome.Rollback | false ↦ None ] ]
]

abbrev pub doubted_by : Summary → Option Addr
doubted_by s = elim s.doubtful [ true ↦ s.superior | false ↦ None ]

-- ---- of all keys of a log

abbrev pub summaries : List Life → List (Owner × Summary)
summaries [] = []
summaries (l ∷ ls) = (l.owner, summary_of l.records) ∷ summaries ls
