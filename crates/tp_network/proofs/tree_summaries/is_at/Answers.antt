use Rattle.std.proofs.Common.{◌∙◌, sym}
use Rattle.tp_network.specs.TreeSummary.{no_summary}
use Rattle.tp_network.proofs.TreeTables.{stands}
use Rattle.tp_network.proofs.tree_summaries.is_at.Goals as goal

pub returns-in-Some : goal.returns-in-Some
returns-in-Some c = λ is.
    stands no_summary c.args.summaries.now.entries c.args.place c.args.tree.now c.in-Some.found.now c.in-Some._summary.now (sym c.is_aaid.ensures ∙ is) c.in-Some.ensures.entry c.in-Some.ensures.value
