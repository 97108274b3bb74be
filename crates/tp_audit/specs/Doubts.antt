-- Who is in doubt, by the records of a key. What awaits such a node is said in Fates.
use Rattle.std.specs.Prelude.{◌||◌, Bool, true, false, Option, Some, None, List, [], ◌∷◌}
use Rattle.tp_names.specs.declared.identifiers.Addr.{Addr}
use Rattle.tp_logrec.specs.declared.record.LogRec.{LogRec}
use Rattle.tp_logrec.specs.Order.{is_ready, is_heuristic, last, holds}

abbrev pub is_doubtful : LogRec → Bool
is_doubtful r = is_ready r || is_heuristic r

abbrev pub superior_by : Option Addr → LogRec → Option Addr
superior_by a (LogRec.Boot n) = a
superior_by a (LogRec.Ready n k b cs) = Some b
superior_by a (LogRec.Heuristic n k o) = a
superior_by a (LogRec.Commit n k b cs) = a
superior_by a (LogRec.Damage n k b o r cs) = a
superior_by a (LogRec.End n k o) = a

-- the superior in the last Ready, or another where there is none
abbrev pub superior_from : Option Addr → List LogRec → Option Addr
superior_from a [] = a
superior_from a (r ∷ rs) = superior_from (superior_by a r) rs

-- the superior of a key whose last record is a Ready or a Heuristic
abbrev pub superior_of : List LogRec → Option Addr
superior_of rs = elim (holds (last rs) is_doubtful) [ true ↦ superior_from None rs | false ↦ None ]
