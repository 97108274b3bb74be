use Rattle.std.proofs.Common.{◌≡◌, ◌++◌, length, take, drop}
use Rattle.tp_model.specs.Node.{branches_of, seen_rows}
use Rattle.tp_node.specs.Node.{arcs_in}
use Rattle.tp_node.proofs.look.see_branches.Given as goal

-- those before are seen anew, and those that are left are as they were
abbrev pub invariant-loop-i : goal.invariant-loop-i
invariant-loop-i l = record {
  rows : seen_rows (arcs_in l.arcs) (branches_of l.fn.branch.rows) ≡ take l.i l.branch.rows ++ seen_rows (arcs_in l.arcs) (branches_of (drop l.i l.branch.rows));
  long : length l.branch.rows ≡ length l.fn.branch.rows;
  rest : l.branch ≡ record l.fn.branch { rows = l.branch.rows };
}
