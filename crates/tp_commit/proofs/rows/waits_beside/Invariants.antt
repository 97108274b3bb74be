use Rattle.std.proofs.Common.{◌≡◌, drop}
use Rattle.tp_model.specs.Node.{branches_of}
use Rattle.tp_commit.specs.Waiting.{waits_beside}
use Rattle.tp_commit.proofs.rows.waits_beside.Given as goal

-- what those that are left decide
abbrev pub invariant-loop-row : goal.invariant-loop-row
invariant-loop-row l = waits_beside (branches_of l.rows) l.peer ≡ waits_beside (branches_of (drop l.row-index l.rows)) l.peer
