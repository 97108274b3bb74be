use Rattle.std.proofs.Common.{◌≡◌, drop}
use Rattle.tp_model.specs.Transactions.{find_row_by_id}
use Rattle.tp_commit.proofs.rows.find_by_id.Given as goal

-- none of those before is it
abbrev pub invariant-loop-row : goal.invariant-loop-row
invariant-loop-row l = find_row_by_id l.rows l.branch ≡ find_row_by_id (drop l.row-index l.rows) l.branch
