use Rattle.std.proofs.Common.{◌≡◌, ◌++◌, drop, map}
use Rattle.tp_model.specs.Node.{chained_from}
use Rattle.tp_tree.specs.Tie.{arc_of}
use Rattle.tp_node.proofs.node.Node.chained_peers.Given as goal

-- those before are noted
abbrev pub invariant-loop-tie : goal.invariant-loop-tie
invariant-loop-tie l = l.peers.items ++ chained_from l.self.who l.self.digest (map arc_of (drop l.tie-index l.tie-items)) ≡ chained_from l.self.who l.self.digest (map arc_of l.tie-items)
