use Rattle.std.proofs.Common.{add-one, arith}
use Rattle.std.proofs.lemmas.Grind.{common_steps}
use Rattle.tp_node.proofs.Refusals.{branch_at}
use Rattle.tp_node.proofs.node.has_branch_at.Goals as goal

pub returns-then-own-peer : goal.returns-then-own-peer
returns-then-own-peer c =
    let b = branch_at c.args.branch.now.rows c.loop-i.i c.branch_peer-own.result (omega arith) c.branch_peer-own.ensures in
    grind (arith, common_steps, b.1, b.2, c.loop-i.invariant)

pub loop-i-preserved : goal.loop-i-preserved
loop-i-preserved c =
    let b = branch_at c.args.branch.now.rows c.loop-i.i c.branch_peer-own.result (omega arith) c.branch_peer-own.ensures in
    rw add-one (grind (arith, common_steps, b.1, b.2, c.loop-i.invariant))
