use Rattle.std.proofs.Common.{◌≡◌, ◌+◌, ◌≤◌, drop}
use Rattle.tp_model.specs.Node.{branches_of}
use Rattle.tp_model.specs.Requests.{count_gone}
use Rattle.tp_node.proofs.node.Node.count_gone.Given as goal

-- those before are counted
abbrev pub invariant-loop-i : goal.invariant-loop-i
invariant-loop-i l = record {
  counted : count_gone l.self.digest.arcs (branches_of l.branch.rows) ≡ l.count + count_gone l.self.digest.arcs (branches_of (drop l.i l.branch.rows));
  few : l.count ≤ l.i;
}
