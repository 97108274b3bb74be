-- What one node did in each tree, found by the trees.
use Rattle.std.specs.Prelude.{List}
use Rattle.tp_names.specs.declared.identifiers.Aaid.{Aaid}
use Rattle.tp_network.specs.TreeKey.{value_at}
use Rattle.tp_network.specs.TreeSummary.{no_summary}
use Rattle.tp_network.specs.declared.tree_summary.TreeSummary.{TreeSummary}
use Rattle.tp_network.specs.declared.tree_key.Tree.{Tree}

-- of a tree that is not among them the node knows nothing
abbrev pub summary_at : List (Tree × TreeSummary) → Aaid → TreeSummary
summary_at v t = value_at no_summary v t
