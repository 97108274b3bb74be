use Rattle.std.proofs.Common.{◌∙◌, Option, ap}
use Rattle.tp_names.proofs.Sames.{aaid_self}
use Rattle.tp_node.specs.declared.state.NodeTree.{NodeTree}
use Rattle.tp_network.specs.TreeSummary.{is_in}
use Rattle.tp_network.proofs.tree_summaries.TreeSummaries.change_before.Goals as goal

pub change_in-requires-clause-before : goal.change_in-requires-clause-before
change_in-requires-clause-before c = ap (λ (o : Option NodeTree). is_in c.in-Some.before.aaid o) c.in-Some.is ∙ aaid_self c.in-Some.before.aaid
