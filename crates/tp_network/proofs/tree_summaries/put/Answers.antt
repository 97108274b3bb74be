use Rattle.tp_network.specs.TreeSummary.{no_summary}
use Rattle.tp_network.proofs.TreeTables.{written_over}
use Rattle.tp_network.proofs.tree_summaries.put.Goals as goal

pub returns-in-Some : goal.returns-in-Some
returns-in-Some c =
    let es = c.args.summaries.now.entries in
    let v = c.args.summary in
    written_over no_summary es (c.get_mut.follows.lender v).entries c.args.tree.now c.in-Some.found.now v (c.get_mut.follows.holds v).0 c.in-Some.ensures.value
