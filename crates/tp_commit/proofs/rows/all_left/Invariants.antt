use Rattle.std.proofs.Common.{◌≡◌, drop}
use Rattle.tp_model.specs.Transactions.{all_left}
use Rattle.tp_commit.proofs.rows.all_left.Given as goal

-- what those that are left decide
abbrev pub invariant-loop-row : goal.invariant-loop-row
invariant-loop-row l = all_left l.rows ≡ all_left (drop l.row-index l.rows)
