use Rattle.std.proofs.Common.{◌≡◌, ◌++◌, drop}
use Rattle.tp_model.specs.Transactions.{prepare_each}
use Rattle.tp_commit.proofs.rows.prepare_each.Given as goal

-- what was said, and what is still to be said
abbrev pub invariant-loop-row : goal.invariant-loop-row
invariant-loop-row l = l.fn.outs ++ prepare_each l.rows ≡ l.outs ++ prepare_each (drop l.row-index l.rows)
