use Rattle.std.proofs.Common.{◌≡◌, ◌++◌, drop}
use Rattle.tp_logrec.specs.Order.{those}
use Rattle.tp_logrec.specs.Kinds.{is_kind}
use Rattle.tp_logrec.proofs.summary.add_kind.Given as goal

abbrev pub invariant-loop-rec : goal.invariant-loop-rec
invariant-loop-rec l = l.fn.short.items ++ those (is_kind l.kind) l.records ≡ l.short.items ++ those (is_kind l.kind) (drop l.rec-index l.records)
