use Rattle.std.proofs.Common.{◌≡◌, drop}
use Rattle.tp_model.specs.Transactions.{all_done}
use Rattle.tp_commit.proofs.rows.all_done.Given as goal

-- what those that are left decide
abbrev pub invariant-loop-row : goal.invariant-loop-row
invariant-loop-row l = all_done l.rows ≡ all_done (drop l.row-index l.rows)
