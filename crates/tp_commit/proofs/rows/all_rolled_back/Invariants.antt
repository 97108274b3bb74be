use Rattle.std.proofs.Common.{◌≡◌, drop}
use Rattle.tp_model.specs.Transactions.{all_rolled_back}
use Rattle.tp_commit.proofs.rows.all_rolled_back.Given as goal

-- what those that are left decide
abbrev pub invariant-loop-row : goal.invariant-loop-row
invariant-loop-row l = all_rolled_back l.rows ≡ all_rolled_back (drop l.row-index l.rows)
