use Rattle.std.proofs.Common.{◌≡◌, ◌++◌, drop}
use Rattle.tp_model.specs.Transactions.{ends_down}
use Rattle.tp_commit.proofs.rows.ends_down.Given as goal

-- what was said, and what is still to be said
abbrev pub invariant-loop-row : goal.invariant-loop-row
invariant-loop-row l = l.fn.outs ++ ends_down l.rows ≡ l.outs ++ ends_down (drop l.row-index l.rows)
