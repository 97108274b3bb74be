use Rattle.std.proofs.Common.{List}
use Rattle.tp_model.specs.World.{Node}
use Rattle.tp_world_sites.specs.Restarts.{IsStopped, IsRestartedTo}
use Rattle.tp_world_sites.proofs.restart.restart_nodes.Given as goal

abbrev pub invariant-loop-place : goal.invariant-loop-place
invariant-loop-place l = (ns : List Node) → IsStopped ns l.old l.lost l.fn.next → IsRestartedTo ns 0 l.fn.next l.fn.nodes l.fn.next → IsRestartedTo ns l.place l.fn.next l.nodes l.next
