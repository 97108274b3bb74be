use Rattle.std.proofs.Common.{◌≡◌, drop}
use Rattle.tp_model.specs.Transactions.{find_row}
use Rattle.tp_commit.proofs.rows.find.Given as goal

-- none of those before is it
abbrev pub invariant-loop-row : goal.invariant-loop-row
invariant-loop-row l = find_row l.rows l.peer ≡ find_row (drop l.row-index l.rows) l.peer
