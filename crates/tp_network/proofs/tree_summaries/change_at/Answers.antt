use Rattle.std.proofs.Common.{arith}
use Rattle.tp_network.specs.TreeSummary.{no_summary, summary_after}
use Rattle.tp_network.proofs.TreeTables.{written_at}
use Rattle.tp_network.proofs.tree_summaries.change_at.Goals as goal

pub returns-in-Some-clause-changed : goal.returns-in-Some-clause-changed
returns-in-Some-clause-changed c = λ _.
    let s = c.args.change.now in
    written_at no_summary (λ t. summary_after t s) c.args.summaries.now c.args.place c.args.tree.now c.in-Some.summary.now c.after_in.result c.get_index_mut.ensures.unique (c.is_at.ensures (grind (arith, c.if-not-is_at.false))) c.in-Some.ensures.value c.after_in.ensures
