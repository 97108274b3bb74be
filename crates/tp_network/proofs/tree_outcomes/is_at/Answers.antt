use Rattle.std.proofs.Common.{◌∙◌, sym}
use Rattle.tp_network.specs.TreeOutcomes.{no_outcomes}
use Rattle.tp_network.proofs.TreeTables.{stands}
use Rattle.tp_network.proofs.tree_outcomes.is_at.Goals as goal

pub returns-in-Some : goal.returns-in-Some
returns-in-Some c = λ is.
    stands no_outcomes c.args.outcomes.now.entries c.args.place c.args.tree.now.aaid c.in-Some.found.now c.in-Some._outcomes.now (sym c.is_aaid.ensures ∙ is) c.in-Some.ensures.entry c.in-Some.ensures.value
