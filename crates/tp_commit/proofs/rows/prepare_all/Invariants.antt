use Rattle.std.proofs.Common.{◌≡◌, ◌++◌, take, drop}
use Rattle.tp_model.specs.Transactions.{all_prepared}
use Rattle.tp_commit.proofs.rows.prepare_all.Given as goal

-- those before are prepared, and those that are left are as they were
abbrev pub invariant-loop-row : goal.invariant-loop-row
invariant-loop-row l = all_prepared l.fn.rows ≡ take l.row-index l.rows ++ all_prepared (drop l.row-index l.rows)
