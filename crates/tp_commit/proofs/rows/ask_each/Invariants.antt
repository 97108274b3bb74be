use Rattle.std.proofs.Common.{◌≡◌, ◌++◌, drop}
use Rattle.tp_model.specs.Transactions.{ask_each}
use Rattle.tp_commit.proofs.rows.ask_each.Given as goal

-- what was said, and what is still to be said
abbrev pub invariant-loop-row : goal.invariant-loop-row
invariant-loop-row l = l.fn.outs ++ ask_each l.aaid l.rows ≡ l.outs ++ ask_each l.aaid (drop l.row-index l.rows)
