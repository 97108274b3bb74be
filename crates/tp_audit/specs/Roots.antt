-- The Commits of roots in one log.
use Rattle.std.specs.Prelude.{◌≡◌, ◌==◌, Bool, true, false, Option, Some, None, List}
use Rattle.std.specs.List.{list_any}
use Rattle.tp_names.specs.declared.identifiers.Aaid.{Aaid}
use Rattle.tp_names.specs.Same.{is_aaid}
use Rattle.tp_logrec.specs.declared.record.LogRec.{LogRec}
use Rattle.tp_model.specs.Promises.{has_record}
use Rattle.tp_audit.specs.declared.keys.TreeKey.{TreeKey}
use Rattle.tp_audit.specs.Keys.{is_tree, tree_key}

-- the tree whose root committed by the record: a Commit by the node that the tree's identifier names
abbrev pub tree_committed : LogRec → Option Aaid
tree_committed (LogRec.Boot n) = None
tree_committed (LogRec.Ready n k a cs) = None
tree_committed (LogRec.Heuristic n k o) = None
tree_committed (LogRec.Commit n k a cs) = elim (n == k.aaid.mark.node) [ true ↦ Some k.aaid | false ↦ None ]
tree_committed (LogRec.Damage n k a o r cs) = None
tree_committed (LogRec.End n k o) = None

-- a Commit of the root of that tree
abbrev pub is_root_commit : Aaid → LogRec → Bool
is_root_commit t r = elim (tree_committed r) [ None ↦ false | Some u ↦ is_aaid u t ]

-- ---- as a set of trees

abbrev pub has_tree : List TreeKey → Aaid → Bool
has_tree ts t = list_any (is_tree (tree_key t)) ts

-- these are the trees of whose roots the list has a Commit
abbrev pub AreRootCommitsOf : List LogRec → List TreeKey → Type 0
AreRootCommitsOf rs ts = (t : Aaid) → has_tree ts t ≡ has_record (is_root_commit t) rs
