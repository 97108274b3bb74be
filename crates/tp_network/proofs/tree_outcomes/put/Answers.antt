use Rattle.tp_network.specs.TreeOutcomes.{no_outcomes}
use Rattle.tp_network.proofs.TreeTables.{written_over}
use Rattle.tp_network.proofs.tree_outcomes.put.Goals as goal

pub returns-in-Some : goal.returns-in-Some
returns-in-Some c =
    let es = c.args.outcomes.now.entries in
    let v = c.args.after in
    written_over no_outcomes es (c.get_mut.follows.lender v).entries c.args.tree.now.aaid c.in-Some.found.now v (c.get_mut.follows.holds v).0 c.in-Some.ensures.value
