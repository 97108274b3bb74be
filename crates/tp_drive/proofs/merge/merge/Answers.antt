use Rattle.std.proofs.Common.{[], sym, ◌∙◌}
use Rattle.std.proofs.lemmas.List.{get_or_read}
use Rattle.tp_drive.proofs.Merging.{takes_all, takes_more}
use Rattle.tp_drive.proofs.merge.merge.Goals as goal

-- the receipt that was taken is the first that was left
pub loop-at-preserved : goal.loop-at-preserved
loop-at-preserved c =
    let queues = c.loop-at.queues in
    let at = c.in-Some.at in
    let first = c.in-Some.ensures.some in
    let is = sym (get_or_read queues at c.index-queues-at.result first.within c.index-queues-at.is []) ∙ c.index-queues-at.is ∙ c.in-Some-pop.ensures.some in
    record {
      left = λ whole rising woven.
          rw c.in_ok-push.ensures.ok
          (takes_more whole c.loop-at.receipts queues at c.in-Some-pop.receipt c.pop.new.self first is (c.loop-at.invariant.left whole rising woven));
    }

-- nothing is left
pub returns : goal.returns
returns c = λ whole rising woven. takes_all whole c.loop-at.receipts c.loop-at.queues c.in_default.ensures.none (c.loop-at.invariant.left whole rising woven)
