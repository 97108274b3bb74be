use Rattle.std.proofs.Common.{arith}
use Rattle.tp_network.specs.TreeOutcomes.{no_outcomes, with_node}
use Rattle.tp_network.proofs.TreeTables.{written_at}
use Rattle.tp_network.proofs.tree_outcomes.add_at.Goals as goal

pub returns-in-Some-clause-added : goal.returns-in-Some-clause-added
returns-in-Some-clause-added c = λ _.
    let s = c.args.summary.now in
    written_at no_outcomes (λ t. with_node s) c.args.outcomes.now c.args.place c.args.tree.now.aaid c.in-Some.found.now c.with.result c.get_index_mut.ensures.unique (c.is_at.ensures (grind (arith, c.if-not-is_at.false))) c.in-Some.ensures.value c.with.ensures
