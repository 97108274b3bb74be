use Rattle.std.proofs.Common.{add-one, arith}
use Rattle.std.proofs.lemmas.Grind.{common_steps}
use Rattle.tp_node.proofs.Refusals.{branch_at}
use Rattle.tp_node.proofs.node.Node.count_gone.Goals as goal
use Rattle.tp_node.proofs.node.Node.count_gone.Goals.{then-is_none, else-is_none}

pub loop-i-preserved : goal.loop-i-preserved
loop-i-preserved c =
    let b = branch_at c.args.branch.now.rows c.loop-i.i c.branch_peer-peer.result (omega arith) c.branch_peer-peer.ensures in
    elim c.if-is_none.branch [
      | then-is_none w ↦ record {
        counted = rw add-one (grind (arith, common_steps, b.1, b.2, c.loop-i.invariant.counted, w.count-is, w.if-is_none.true, c.find.ensures.arc, c.is_none.ensures));
        few = omega (arith, w.count-is, c.loop-i.invariant.few);
      }
      | else-is_none w ↦ record {
        counted = rw add-one (grind (arith, common_steps, b.1, b.2, c.loop-i.invariant.counted, w.count-is, w.if-is_none.false, c.find.ensures.arc, c.is_none.ensures));
        few = omega (arith, w.count-is, c.loop-i.invariant.few);
      }
    ]
