-- What is kept of a node while its site is played, and what an entry of its history makes of it.
use Rattle.std.specs.Prelude.{ℕ, zero, suc, ◌≡◌, ◌++◌, ◌&&◌, not, true, false, Option, Some, None, List, [], ◌∷◌}
use Rattle.std.specs.Option.{option_map}
use Rattle.tp_names.specs.declared.identifiers.Aaid.{Aaid}
use Rattle.tp_names.specs.declared.identifiers.Addr.{Addr}
use Rattle.tp_names.specs.Same.{is_addr, is_name}
use Rattle.tp_model.specs.declared.out_line.LogWords.{LogWords}
use Rattle.tp_model.specs.Parts.{Entry}
use Rattle.tp_model.specs.History.{digest, crashed}
use Rattle.tp_model.specs.Happenings.{log_shown, trees_of}
use Rattle.tp_model.specs.Outcomes.{is_unchanged}
use Rattle.tp_model.specs.World.{Node, addr_of}
use Rattle.tp_node.specs.declared.state.NodeTree.{NodeTree}
use Rattle.tp_node.specs.State.{tree_in}
use Rattle.tp_network.specs.TreeSummary.{is_in, summary_after}
use Rattle.tp_network.specs.TreeSummaries.{summary_at}
use Rattle.tp_network.specs.declared.nodes.NodeSlot.{NodeSlot}
use Rattle.tp_network.specs.declared.tree_summary.TreeChange.{TreeChange}
use Rattle.tp_outcomes.specs.Starting.{starts}
use Rattle.tp_site_logs.specs.Lives.{first_origin}
use Rattle.tp_deployments.specs.Deployments.{Deed, Place, history_at}
use Rattle.tp_deployments.specs.RunOf.{node_at}
use Rattle.tp_world_sites.specs.Summary.{summary}
use Rattle.tp_closing.specs.declared.trees.Shown.{Shown}
use Rattle.tp_closing.specs.declared.trees.State.{State}
use Rattle.tp_closing.specs.declared.trees.Trees.{Trees}

-- ---- one node

pub record IsSeen (n : Node) (x : NodeSlot) (s : State) : Type 0 where
  pub addr : x.addr ≡ addr_of n
  pub superior : x.superior ≡ n.superior
  pub summaries : (t : Aaid) → summary_at x.summaries t ≡ summary n.origin t n.history
  pub now : s.now ≡ tree_in (digest n.origin n.history)
  pub begun : s.begun.items ≡ starts n.origin n.history

-- the words of a record, where they tell of a tree what its closing line asks
abbrev pub words_heeded : Option LogWords → Option LogWords
words_heeded (Some (LogWords.Commit n k)) = Some (LogWords.Commit n k)
words_heeded (Some (LogWords.Heuristic n k o)) = Some (LogWords.Heuristic n k o)
words_heeded _ = None

abbrev pub change_from : Option NodeTree → Shown → TreeChange
change_from before w = record { before = before; after = w.after; leaves = w.leaves; rec = w.rec }

-- the tree that a change begins: the node is its root after the change, and was not in it before
abbrev pub tree_begun : TreeChange → Option Aaid
tree_begun s = elim s.after [
  | None ↦ None
  | Some b ↦ elim (b.is_root && not (is_in b.aaid s.before)) [ true ↦ Some b.aaid | false ↦ None ]
]

-- what is kept of it after an entry that shows this
pub record Turns (w : Shown) (x : NodeSlot) (s : State) (y : NodeSlot) (r : State) : Type 0 where
  pub addr : y.addr ≡ x.addr
  pub superior : y.superior ≡ x.superior
  pub summaries : (t : Aaid) → summary_at y.summaries t ≡ summary_after t (change_from s.now w) (summary_at x.summaries t)
  pub now : r.now ≡ w.after
  pub begun : r.begun.items ≡ s.begun.items ++ trees_of (tree_begun (change_from s.now w))

-- ---- those of all places, the oldest first, after these deeds

abbrev pub AreSeen : List Deed → List Place → List NodeSlot → List State → Type 0
AreSeen ds [] [] [] = Unit {0}
AreSeen ds (q ∷ qs) (x ∷ xs) (s ∷ ss) = IsSeen (node_at ds q) x s × AreSeen ds qs xs ss
AreSeen ds _ _ _ = ⊥

-- of which the first so many are as after more deeds
abbrev pub AreSeenTo : List Deed → List Deed → ℕ → List Place → List NodeSlot → List State → Type 0
AreSeenTo new old zero qs xs ss = AreSeen old qs xs ss
AreSeenTo new old (suc i) [] [] [] = Unit {0}
AreSeenTo new old (suc i) (q ∷ qs) (x ∷ xs) (s ∷ ss) = IsSeen (node_at new q) x s × AreSeenTo new old i qs xs ss
AreSeenTo new old (suc i) _ _ _ = ⊥

abbrev pub oldest_first : List Place → List Place
oldest_first [] = []
oldest_first (q ∷ qs) = oldest_first qs ++ q ∷ []

abbrev pub Sees : List Deed → List Place → Trees → Type 0
Sees ds qs v = AreSeen ds (oldest_first qs) v.slots.items v.states.items

abbrev pub all_begun : List State → List Aaid
all_begun [] = []
all_begun (s ∷ ss) = s.begun.items ++ all_begun ss

-- ---- from some deeds to more

-- the node at that address gains an entry, which shows this, and no other does
pub record IsEntered (old new : List Deed) (at : Addr) (w : Shown) : Type 0 where
  pub entry : Entry
  pub here : history_at new at ≡ entry ∷ history_at old at
  pub there : (a : Addr) → is_addr a at ≡ false → history_at new a ≡ history_at old a
  pub after_is : w.after ≡ tree_in (digest (first_origin at.site at.node) (history_at new at))
  pub leaves_is : w.leaves ≡ is_unchanged entry.event
  pub rec_is : w.rec ≡ words_heeded (option_map log_shown entry.rec)

-- the nodes of that site stop, after which they are in these trees
pub record IsStopped (old new : List Deed) (site : List ℕ) (after : ℕ → Option NodeTree) : Type 0 where
  pub here : (a : Addr) → is_name a.site site ≡ true → history_at new a ≡ crashed (history_at old a)
  pub there : (a : Addr) → is_name a.site site ≡ false → history_at new a ≡ history_at old a
  pub after_is : (a : Addr) → is_name a.site site ≡ true → after a.node ≡ tree_in (digest (first_origin a.site a.node) (history_at new a))
