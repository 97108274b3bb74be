use Rattle.std.proofs.Common.{◌≡◌, drop}
use Rattle.tp_model.specs.Node.{branches_of}
use Rattle.tp_model.specs.Requests.{has_branch_at}
use Rattle.tp_node.proofs.node.has_branch_at.Given as goal

-- none of those before is with the peer
abbrev pub invariant-loop-i : goal.invariant-loop-i
invariant-loop-i l = has_branch_at (branches_of l.branch.rows) l.peer ≡ has_branch_at (branches_of (drop l.i l.branch.rows)) l.peer
