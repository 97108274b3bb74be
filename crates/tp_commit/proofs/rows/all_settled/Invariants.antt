use Rattle.std.proofs.Common.{◌≡◌, drop}
use Rattle.tp_model.specs.Transactions.{all_settled}
use Rattle.tp_commit.proofs.rows.all_settled.Given as goal

-- what those that are left decide
abbrev pub invariant-loop-row : goal.invariant-loop-row
invariant-loop-row l = all_settled l.rows ≡ all_settled (drop l.row-index l.rows)
