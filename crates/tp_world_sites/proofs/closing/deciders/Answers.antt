use Rattle.std.proofs.Common.{◌∙◌, ap, sym, arith}
use Rattle.std.proofs.Math.Seq.{drop-length}
use Rattle.tp_world_sites.specs.Told.{decides_in, deciders_at}
use Rattle.tp_world_sites.proofs.ToldAt.{decider_back, decider_over}
use Rattle.tp_world_sites.proofs.closing.deciders.Goals as goal

pub loop-i-init : goal.loop-i-init
loop-i-init c = (omega arith, c.new-numbers.ensures ∙ sym (ap (deciders_at c.args.tree.now) (drop-length c.args.nodes.now)))

pub loop-i-preserved-then-decides : goal.loop-i-preserved-then-decides
loop-i-preserved-then-decides c = (
  omega (arith, c.loop-i.invariant.0),
  c.in_ok-numbers.ensures
      ∙ decider_back c.args.tree.now c.args.nodes.now c.loop-i.numbers c.loop-i.i c.index-nodes-i.result c.index-nodes-i-then-decides.result (omega arith) c.loop-i.invariant.0
      (sym (c.if-decides.ensures ∙ ap decides_in c.summary-summary.ensures)) c.loop-i.invariant.1,
)

pub loop-i-preserved : goal.loop-i-preserved
loop-i-preserved c = (
  omega (arith, c.loop-i.invariant.0),
  decider_over c.args.tree.now c.args.nodes.now c.loop-i.numbers c.loop-i.i c.index-nodes-i.result (omega arith) c.loop-i.invariant.0 (sym (c.if-decides.ensures ∙ ap decides_in c.summary-summary.ensures)) c.loop-i.invariant.1,
)
