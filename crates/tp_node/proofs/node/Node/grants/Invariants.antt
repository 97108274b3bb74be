use Rattle.std.proofs.Common.{◌≡◌, ◌++◌, drop, map}
use Rattle.tp_model.specs.Node.{grants}
use Rattle.tp_tree.specs.Tie.{arc_of}
use Rattle.tp_node.proofs.node.Node.grants.Given as goal

-- those before are noted
abbrev pub invariant-loop-tie : goal.invariant-loop-tie
invariant-loop-tie l = l.outs ++ grants l.branch (map arc_of (drop l.tie-index l.tie-items)) ≡ grants l.branch (map arc_of l.tie-items)
