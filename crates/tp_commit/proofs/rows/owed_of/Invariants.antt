use Rattle.std.proofs.Common.{◌≡◌, ◌++◌, drop}
use Rattle.tp_model.specs.Transactions.{owed_of}
use Rattle.tp_commit.proofs.rows.owed_of.Given as goal

-- those before, and those that are left
abbrev pub invariant-loop-row : goal.invariant-loop-row
invariant-loop-row l = owed_of l.rows ≡ l.children ++ owed_of (drop l.row-index l.rows)
