-- What a node did in a tree, as far as the closing lines ask, and what an entry of its history makes of it. An entry is seen as
-- a change: what the node stands in before it and after it, whether its user left, and its record.
use Rattle.std.specs.Prelude.{◌&&◌, ◌||◌, not, Bool, true, false, if◌then◌else◌, Option, Some, None}
use Rattle.tp_names.specs.declared.identifiers.Aaid.{Aaid}
use Rattle.tp_names.specs.declared.outcome.Outcome.{Outcome}
use Rattle.tp_names.specs.Same.{is_aaid}
use Rattle.tp_model.specs.declared.arc.Phase.{Phase}
use Rattle.tp_model.specs.declared.out_line.LogWords.{LogWords}
use Rattle.tp_model.specs.Dialogues.{is_active, is_ready, is_rolling}
use Rattle.tp_node.specs.declared.state.NodeTree.{NodeTree}
use Rattle.tp_network.specs.declared.tree_summary.TreeSummary.{TreeSummary}
use Rattle.tp_network.specs.declared.tree_summary.TreeChange.{TreeChange}

-- ---- questions to a change

abbrev pub is_in : Aaid → Option NodeTree → Bool
is_in t None = false
is_in t (Some x) = is_aaid t x.aaid

-- where the tree is not the current one, Nil
abbrev pub phase_in : Aaid → Option NodeTree → Phase
phase_in t None = Phase.Nil
phase_in t (Some x) = if is_aaid t x.aaid then x.phase else Phase.Nil

abbrev pub is_commit_of : Aaid → Option LogWords → Bool
is_commit_of t (Some (LogWords.Commit n k)) = is_aaid t k.aaid
is_commit_of t _ = false

abbrev pub decision_in : Aaid → Option LogWords → Option Outcome
decision_in t (Some (LogWords.Heuristic n k o)) = if is_aaid t k.aaid then Some o else None
decision_in t _ = None

abbrev pub is_alike : Bool → Bool → Bool
is_alike true b = b
is_alike false b = not b

-- the tree is the current one after the change too, as it was before: at a root as a root, and at a branch as a branch. A superior
-- may begin a tree with an identifier that the node draws later: the node may be in it as a branch before a change, and as a root after
abbrev pub goes_on : Aaid → Option NodeTree → Option NodeTree → Bool
goes_on t None y = false
goes_on t (Some x) None = false
goes_on t (Some x) (Some y) = is_aaid t y.aaid && is_alike x.is_root y.is_root

-- it rolls after the change; or it was active or ready, and is over without having left
abbrev pub has_rolled : Aaid → TreeChange → Bool
has_rolled t s =
    is_rolling (phase_in t s.after)
    || ((is_active (phase_in t s.before) || is_ready (phase_in t s.before)) && not (goes_on t s.before s.after) && not s.leaves)

-- ---- the trees of a change

-- the tree before it is the tree after it too
abbrev pub same_tree : Option NodeTree → Option NodeTree → Bool
same_tree None y = false
same_tree (Some x) y = is_in x.aaid y

abbrev pub stood_in : Aaid → TreeChange → Bool
stood_in t s = is_in t s.before || is_in t s.after

-- whose commitment, or decision, is logged
abbrev pub tree_logged : Option LogWords → Option Aaid
tree_logged (Some (LogWords.Commit n k)) = Some k.aaid
tree_logged (Some (LogWords.Heuristic n k o)) = Some k.aaid
tree_logged _ = None

abbrev pub is_that : Aaid → Option Aaid → Bool
is_that t None = false
is_that t (Some u) = is_aaid t u

-- the change speaks of it: the node stands in it before or after, or logs of it
abbrev pub speaks_of : Aaid → TreeChange → Bool
speaks_of t s = stood_in t s || is_that t (tree_logged s.rec)

-- ---- the summary after a change

abbrev pub no_summary : TreeSummary
no_summary = record { member = false; left = false; decided = false; decision = None; rolled = false }

abbrev pub summary_after : Aaid → TreeChange → TreeSummary → TreeSummary
summary_after t s p = record {
  member = is_in t s.after || p.member;
  left = (is_in t s.before && s.leaves) || p.left;
  decided = is_commit_of t s.rec || p.decided;
  decision = elim (decision_in t s.rec) [ Some o ↦ Some o | None ↦ p.decision ];
  rolled = has_rolled t s || p.rolled;
}

-- what the node was told of the tree
abbrev pub told_by_summary : TreeSummary → Option Outcome
told_by_summary p = elim p.decision [
  | Some u ↦ Some u
  | None ↦ if p.decided then Some Outcome.Commit else if p.rolled then Some Outcome.Rollback else None
]

-- it is a node of the tree, and stays in it
abbrev pub stays_in : TreeSummary → Bool
stays_in p = p.member && not p.left
