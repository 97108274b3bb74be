-- How a run of the service is a run of the page of tp_tree_commit: what the history of each node tells of its part in a tree, and that what
-- happens in a world is steps of the page. Statements alone; nothing is proved here.
use Rattle.std.specs.Prelude.{ℕ, ◌≡◌, Bool, true, false, Option, Some, None, List, ◌∷◌}
use Rattle.tp_names.specs.declared.identifiers.Aaid.{Aaid}
use Rattle.tp_names.specs.declared.identifiers.Addr.{Addr}
use Rattle.tp_model.specs.History.{records}
use Rattle.tp_model.specs.Outcomes.{is_member, decided, decision, rolled, has_left, completed_none}
use Rattle.tp_model.specs.World.{World, Node, find_node}
use Rattle.tp_model.specs.Happenings.{Happening, run}
use Rattle.tp_model.specs.Trees.{stays}
use Rattle.tp_model.specs.Promises.{is_root, IsOf, OneOutcome, ReportFree, HasCommitted}
use Rattle.tp_histories.specs.Fates.{has_ready_in}
use Rattle.tp_reports.specs.Reports.{ReportFreeCommits}
use Rattle.tp_failure_free.specs.DrainedTrees.{IsSettledTree}
use Rattle.tp_tree_commit.specs.TreeCommit.{Vote, Ending, Part, Tree, Reached, IsUndisturbed, IsAtRest, RestCompletes}
use Rattle.tp_tree_commit.specs.TreeCommit.{OneOutcome as OneOutcomeOf, ReportFree as ReportFreeOf}
use Rattle.tp_tree_commit.specs.Walks.{Walks}

-- ---- the part of a node in the tree t

-- by whether it left, and whether it logged Ready of the tree
abbrev pub vote_of : Bool → Bool → Vote
vote_of true ready = Vote.Left
vote_of false true = Vote.Ready
vote_of false false = Vote.Unvoted

-- by whether it logged Commit of the tree, and whether it rolled back in it
abbrev pub ending_of : Bool → Bool → Ending
ending_of true rolled = Ending.Committed
ending_of false true = Ending.Rolled
ending_of false false = Ending.Open

abbrev pub number_above : Option Addr → Option ℕ
number_above None = None
number_above (Some a) = Some a.node

-- a node that drew the tree's identifier is its root; another has the superior with which it was declared
abbrev pub above_of : Aaid → Node → Option ℕ
above_of t x = elim (is_root t x) [ true ↦ None | false ↦ number_above x.superior ]

abbrev pub part_of : Aaid → Node → Part
part_of t x = record {
  superior = above_of t x;
  vote = vote_of (has_left x.origin t x.history) (has_ready_in t (records x.origin x.history));
  ending = ending_of (decided x.origin t x.history) (rolled x.origin t x.history);
  decision = decision x.origin t x.history;
  clear = completed_none x.origin t x.history;
}

-- ---- the tree that a world has

-- a node has a part in the tree where it drew its identifier or took a Begin of it
abbrev pub part_in : Aaid → Option Node → Option Part
part_in t None = None
part_in t (Some x) = elim (is_member x.origin t x.history) [ true ↦ Some (part_of t x) | false ↦ None ]

abbrev pub tree_among : List Node → Aaid → Tree
tree_among ns t n = part_in t (find_node ns n)

abbrev pub tree_in : World → Aaid → Tree
tree_in w t = tree_among w.nodes t

-- ---- every run refines the page

-- whatever happens is steps of the page in every tree, or none: where a site stops, a step for each of its nodes that was active
abbrev pub RunsRefine : Type 0
RunsRefine = (e : Happening) (es : List Happening) (t : Aaid) → Walks (tree_in (run es) t) (tree_in (run (e ∷ es)) t)

-- so what each run leaves of a tree is reached on the page
abbrev pub RunsAreOnThePage : Type 0
RunsAreOnThePage = (es : List Happening) (t : Aaid) → Reached (tree_in (run es) t)

-- ---- what the page says of the trees that a world has is promised of the world

-- the first two sentences are those of Promises. Of the third: where on the page nobody rolled back or decided to, and nobody can go on, every node
-- that stays in the tree has committed, and was told that this is complete with no report
pub record SaysOfWorlds (w : World) : Type 0 where
  pub one_outcome : ((t : Aaid) → OneOutcomeOf (tree_in w t)) → OneOutcome w
  pub report_free : ((t : Aaid) → ReportFreeOf (tree_in w t)) → ReportFree w
  pub report_free_commits : ((t : Aaid) → ReportFreeOf (tree_in w t)) → ReportFreeCommits w
  pub rest_completes : (t : Aaid) → RestCompletes (tree_in w t) → IsUndisturbed (tree_in w t) → IsAtRest (tree_in w t) → (y : Node)
      → IsOf w t y → stays t y ≡ true → HasCommitted t y

-- ---- where the service's third sentence speaks

-- where each word of a tree was taken, nothing failed in it and each user asked for commitment or left, the tree is at rest on the page, and
-- nobody rolled back or decided to: by the page's third sentence every node that stays has committed
abbrev pub SettledRests : World → Type 0
SettledRests w = (t : Aaid) → IsSettledTree w t → IsUndisturbed (tree_in w t) × IsAtRest (tree_in w t)
