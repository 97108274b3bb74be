-- Whether two nodes of one tree ended apart, by all records of the logs.
-- What awaits a node that is in doubt is said in Fates.
use Rattle.std.specs.Prelude.{◌&&◌, not, Bool, true, false, Option, Some, None, List, [], ◌∷◌}
use Rattle.tp_names.specs.declared.outcome.Outcome.{Outcome}
use Rattle.tp_names.specs.Same.{is_aaid, is_outcome}
use Rattle.tp_logrec.specs.declared.record.LogRec.{LogRec}
use Rattle.tp_logrec.specs.Order.{is_commit, is_heuristic}
use Rattle.tp_model.specs.Promises.{has_record}
use Rattle.tp_audit.specs.declared.verdict.Verdict.{Verdict}
use Rattle.tp_audit.specs.Entries.{SiteLog, Entry, addr_of, tree_of, entries}

-- an End or a Damage with rollback
abbrev pub is_rollback : LogRec → Bool
is_rollback (LogRec.Boot n) = false
is_rollback (LogRec.Ready n k a cs) = false
is_rollback (LogRec.Heuristic n k o) = false
is_rollback (LogRec.Commit n k a cs) = false
is_rollback (LogRec.Damage n k a o r cs) = is_outcome o Outcome.Rollback
is_rollback (LogRec.End n k o) = is_outcome o Outcome.Rollback

-- how a key ended by its records: a Commit goes before all others
abbrev pub outcome_of : List LogRec → Option Outcome
outcome_of rs = elim (has_record is_commit rs) [
  | true ↦ Some Outcome.Commit
  | false ↦ elim (has_record is_rollback rs) [ true ↦ Some Outcome.Rollback | false ↦ None ]
]

-- and only where its node took no decision of its own
abbrev pub settled_of : List LogRec → Option Outcome
settled_of rs = elim (has_record is_heuristic rs) [ true ↦ None | false ↦ outcome_of rs ]

-- ---- two entries

abbrev pub are_apart : Option Outcome → Option Outcome → Bool
are_apart None p = false
are_apart (Some o) None = false
are_apart (Some o) (Some p) = not (is_outcome o p)

-- they are of one tree, and ended apart by that reading of their records
abbrev pub clash : (List LogRec → Option Outcome) → Entry → Entry → Bool
clash read a b = is_aaid (tree_of a) (tree_of b) && are_apart (read a.records) (read b.records)

-- the first of these with which the entry clashes
abbrev pub first_clash : (List LogRec → Option Outcome) → Entry → List Entry → Option Entry
first_clash read a [] = None
first_clash read a (b ∷ bs) = elim (clash read a b) [ true ↦ Some b | false ↦ first_clash read a bs ]

-- ---- all entries

-- the first that clashes with a later one, and the first later one with which it clashes
abbrev pub verdict_by : (List LogRec → Option Outcome) → List Entry → Verdict
verdict_by read [] = Verdict.Yes
verdict_by read (a ∷ es) = elim (first_clash read a es) [
  | Some b ↦ Verdict.Differ (tree_of a) (addr_of a) (addr_of b)
  | None ↦ verdict_by read es
]

abbrev pub verdict : List SiteLog → Verdict
verdict logs = verdict_by settled_of (entries logs)
