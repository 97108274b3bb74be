use Rattle.std.proofs.Common.{◌≡◌, ◌++◌, drop}
use Rattle.tp_model.specs.Transactions.{children_of}
use Rattle.tp_commit.proofs.rows.children_of.Given as goal

-- those before, and those that are left
abbrev pub invariant-loop-row : goal.invariant-loop-row
invariant-loop-row l = children_of l.rows ≡ l.children ++ children_of (drop l.row-index l.rows)
