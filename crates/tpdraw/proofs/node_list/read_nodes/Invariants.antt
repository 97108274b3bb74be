use Rattle.std.proofs.Common.{◌≡◌, Some, drop}
use Rattle.tpdraw.specs.NodeLists.{numbers_on, numbers_in}
use Rattle.tpdraw.proofs.node_list.read_nodes.Given as goal

abbrev pub invariant-loop-byte : goal.invariant-loop-byte
invariant-loop-byte l = numbers_on (Some (l.read.0, l.read.1)) (drop l.byte-index l.list) ≡ numbers_in l.list
