-- What the nodes that stay in a tree were told: whether some, and whether all of them were told each outcome.
use Rattle.std.specs.Prelude.{◌&&◌, ◌||◌, not, true, false, List, [], ◌∷◌}
use Rattle.tp_names.specs.declared.identifiers.Aaid.{Aaid}
use Rattle.tp_names.specs.declared.outcome.Outcome.{Outcome}
use Rattle.tp_model.specs.Trees.{is_told}
use Rattle.tp_network.specs.TreeKey.{value_at}
use Rattle.tp_network.specs.TreeSummary.{stays_in, told_by_summary}
use Rattle.tp_network.specs.TreeSummaries.{summary_at}
use Rattle.tp_network.specs.declared.nodes.NodeSlot.{NodeSlot}
use Rattle.tp_network.specs.declared.tree_key.Tree.{Tree}
use Rattle.tp_network.specs.declared.tree_summary.TreeSummary.{TreeSummary}
use Rattle.tp_network.specs.declared.tree_outcomes.TreeOutcomes.{TreeOutcomes}

abbrev pub no_outcomes : TreeOutcomes
no_outcomes = record { some_committed = false; all_committed = true; some_rolled_back = false; all_rolled_back = true }

-- with one node more
abbrev pub with_node : TreeSummary → TreeOutcomes → TreeOutcomes
with_node s o = record {
  some_committed = (stays_in s && is_told Outcome.Commit (told_by_summary s)) || o.some_committed;
  all_committed = (not (stays_in s) || is_told Outcome.Commit (told_by_summary s)) && o.all_committed;
  some_rolled_back = (stays_in s && is_told Outcome.Rollback (told_by_summary s)) || o.some_rolled_back;
  all_rolled_back = (not (stays_in s) || is_told Outcome.Rollback (told_by_summary s)) && o.all_rolled_back;
}

-- with these nodes too
abbrev pub outcomes_after : List NodeSlot → Aaid → TreeOutcomes → TreeOutcomes
outcomes_after [] t o = o
outcomes_after (x ∷ xs) t o = with_node (summary_at x.summaries t) (outcomes_after xs t o)

-- of these nodes
abbrev pub outcomes_at : List NodeSlot → Aaid → TreeOutcomes
outcomes_at xs t = outcomes_after xs t no_outcomes

-- in a table by trees
abbrev pub outcomes_in : List (Tree × TreeOutcomes) → Aaid → TreeOutcomes
outcomes_in es t = value_at no_outcomes es t
