use Rattle.std.proofs.Common.{◌≡◌, ◌++◌, drop}
use Rattle.tp_model.specs.Transactions.{forgets}
use Rattle.tp_commit.proofs.rows.forgets.Given as goal

-- what was said, and what is still to be said
abbrev pub invariant-loop-row : goal.invariant-loop-row
invariant-loop-row l = l.fn.outs ++ forgets l.aaid l.rows ≡ l.outs ++ forgets l.aaid (drop l.row-index l.rows)
