-- The records of which a life has one.
use Rattle.std.specs.Prelude.{Bool}
use Rattle.tp_logrec.specs.declared.record.LogRec.{LogRec}
use Rattle.tp_logrec.specs.declared.summary.Kind.{Kind}
use Rattle.tp_logrec.specs.Order.{is_ready, is_heuristic, is_commit}

abbrev pub is_kind : Kind → LogRec → Bool
is_kind Kind.Ready r = is_ready r
is_kind Kind.Heuristic r = is_heuristic r
is_kind Kind.Commit r = is_commit r
