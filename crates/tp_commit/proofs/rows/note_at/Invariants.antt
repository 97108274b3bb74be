use Rattle.std.proofs.Common.{◌≡◌, ◌++◌, take, drop}
use Rattle.tp_commit.specs.Row.{noted_at}
use Rattle.tp_commit.proofs.rows.note_at.Given as goal

-- none of those before is it
abbrev pub invariant-loop-row : goal.invariant-loop-row
invariant-loop-row l = record {
  same : l.rows ≡ l.fn.rows;
  so_far : noted_at l.fn.rows l.peer l.note ≡ take l.row-index l.rows ++ noted_at (drop l.row-index l.rows) l.peer l.note;
}
