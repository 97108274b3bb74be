use Rattle.std.proofs.Common.{◌≡◌, ◌++◌, take, drop}
use Rattle.tp_commit.specs.Branch.{standing_rows}
use Rattle.tp_commit.proofs.rows.stand.Given as goal

-- those before stand, and those that are left are as they were
abbrev pub invariant-loop-row : goal.invariant-loop-row
invariant-loop-row l = standing_rows l.rolls l.fn.rows ≡ take l.row-index l.rows ++ standing_rows l.rolls (drop l.row-index l.rows)
