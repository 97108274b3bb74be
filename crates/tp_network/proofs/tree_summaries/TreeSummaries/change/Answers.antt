use Rattle.tp_network.specs.TreeSummaries.{summary_at}
use Rattle.tp_network.proofs.Changes.{then_ok, changed_all}
use Rattle.tp_network.proofs.tree_summaries.TreeSummaries.change.Goals as goal

pub returns-clause-changed : goal.returns-clause-changed
returns-clause-changed c =
    let s = c.args.change.now in
    then_ok c.change_logged.result
    (λ last t.
    changed_all t s (summary_at c.args.self.now t) (summary_at c.change_before.new.self t) (summary_at c.change_after.new.self t) (summary_at c.change_logged.new.self t) (c.in_ok-stays.ensures.changed t)
    (c.in_ok-change_after.ensures.changed t) (last t))
    c.change_logged.ensures.changed
