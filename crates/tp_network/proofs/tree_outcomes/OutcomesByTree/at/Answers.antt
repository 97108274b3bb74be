use Rattle.std.proofs.Common.{ap, sym, ◌∙◌}
use Rattle.tp_network.specs.TreeOutcomes.{no_outcomes, outcomes_in}
use Rattle.tp_network.proofs.TreeTables.{value_there}
use Rattle.tp_network.proofs.tree_outcomes.OutcomesByTree.at.Goals as goal

pub returns : goal.returns
returns c =
    value_there no_outcomes c.self.inside.outcomes.entries c.args.tree.now c.in-Some.found.now c.in-Some.outcomes.now (sym c.is_aaid.ensures ∙ c.if-is_aaid.true) c.in-Some.ensures.value
    ∙ ap (λ es. outcomes_in es c.args.tree.now) c.self.view_is
