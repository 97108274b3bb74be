use Rattle.std.proofs.Common.{◌≡◌}
use Rattle.tp_names.specs.declared.identifiers.Aaid.{Aaid}
use Rattle.tp_network.specs.TreeOutcomes.{outcomes_in}
use Rattle.tp_network.proofs.Gathering.{gathered}
use Rattle.tp_network.proofs.tree_summaries.gather_in.Given as goal

abbrev pub invariant-loop-tree : goal.invariant-loop-tree
invariant-loop-tree l = (t : Aaid) → gathered l.tree-iterator t (outcomes_in l.all t) ≡ gathered l.summaries.entries t (outcomes_in l.initial.all t)
