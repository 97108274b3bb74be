use Rattle.std.proofs.Common.{◌≡◌, ◌++◌, drop}
use Rattle.tp_model.specs.Transactions.{carry_down}
use Rattle.tp_commit.specs.Row.{record_of}
use Rattle.tp_commit.proofs.rows.carry_down.Given as goal

-- what was said, and what is still to be said
abbrev pub invariant-loop-row : goal.invariant-loop-row
invariant-loop-row l = l.fn.outs ++ carry_down l.rows (record_of l.outcome) ≡ l.outs ++ carry_down (drop l.row-index l.rows) (record_of l.outcome)
