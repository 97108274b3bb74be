use Rattle.std.proofs.Common.{◌≡◌, ◌++◌, drop}
use Rattle.tp_commit.specs.Branch.{idle_rows}
use Rattle.tp_commit.proofs.branch.idle_rows.Given as goal

-- those before, and those that are left
abbrev pub invariant-loop-child : goal.invariant-loop-child
invariant-loop-child l = idle_rows l.children ≡ l.rows ++ idle_rows (drop l.child-index l.children)
