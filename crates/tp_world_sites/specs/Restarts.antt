-- A site stops, and starts again on its own disk; its nodes are declared again, one after the other.
use Rattle.std.specs.Prelude.{ℕ, zero, suc, ◌≡◌, ◌<◌, ◌==◌, true, false, Option, Some, None, List, [], ◌∷◌, ◌++◌, Result, Ok, Err}
use Rattle.tp_names.specs.Same.{is_name}
use Rattle.tp_logrec.specs.declared.record.LogRec.{LogRec}
use Rattle.tp_logrec.specs.Order.{boots, last_number, all_follow}
use Rattle.tp_outside.specs.declared.mem_disk.MemDisk.{MemDisk}
use Rattle.tp_outside.specs.MemDisk.{recorded}
use Rattle.tp_journal.specs.declared.faults.ForceFault.TheVariants as force
use Rattle.tp_journal.specs.Journals.{Kept}
use Rattle.tp_journal.specs.Log.{head, place_behind}
use Rattle.tp_journal.specs.Records.{bodies_of}
use Rattle.tp_journal.specs.Told.{IsOn}
use Rattle.tp_model.specs.declared.verdict.What.{What}
use Rattle.tp_model.specs.Happenings.{restarted}
use Rattle.tp_model.specs.History.{digest, crashed}
use Rattle.tp_model.specs.Links.{greatest}
use Rattle.tp_model.specs.World.{Node, number_of, site_of, find_node}
use Rattle.tp_site.specs.Site.{IsStarted, IsUnstarted, known_at}
use Rattle.tp_site.specs.Nodes.{IsSameSite}
use Rattle.tp_site.specs.State.{tree_in}
use Rattle.tp_node.specs.declared.state.NodeTree.{NodeTree}
use Rattle.tp_network.specs.declared.nodes.NodeSlot.{NodeSlot}
use Rattle.tp_world_sites.specs.Slots.{standing}
use Rattle.tp_world_sites.specs.Sites.{known_by, unknown_at}
use Rattle.tp_world_sites.specs.Standing.{AreNodes, are_apart}
use Rattle.tp_world_sites.specs.declared.fault.WorldFault.{WorldFault}
use Rattle.tp_world_sites.specs.declared.restart.LostEntry.{LostEntry}
use Rattle.tp_world_sites.specs.declared.site_slot.SiteSlot.{SiteSlot}

-- ---- the journal

-- it has started on that file, which stands at the front for these records, and all of the file is on its disk
pub record IsOpened (file : List ℕ) (rs : List LogRec) (j : Kept MemDisk) : Type 0 where
  pub list : j.list ≡ rs
  pub wide : j.wide ≡ true
  pub gate : j.gate ≡ place_behind (bodies_of true rs)
  pub unshut : j.shut ≡ None
  pub bytes : (rest : List ℕ) → file ≡ head 1 ++ rest → IsOn (Some (recorded j.disk).story) file

-- its bytes are foreign to no journal: all that is wanted is memory
abbrev pub Opens : List ℕ → List LogRec → Result (Kept MemDisk) WorldFault → Type 0
Opens file rs (Ok new) = IsOpened file rs new
Opens file rs (Err WorldFault.Name) = ⊥
Opens file rs (Err (WorldFault.Limit what)) = ⊥
Opens file rs (Err WorldFault.NoMemory) = Unit {0}

-- a journal that has the records of the other, and its bytes
pub record IsReopened (old new : Kept MemDisk) : Type 0 where
  pub list : new.list ≡ old.list
  pub wide : new.wide ≡ old.wide
  pub gate : new.gate ≡ old.gate
  pub unshut : new.shut ≡ None
  pub bytes : (rest : List ℕ) → IsOn (Some (recorded old.disk).story) (head 1 ++ rest) → IsOn (Some (recorded new.disk).story) (head 1 ++ rest)

abbrev pub Reopens : Kept MemDisk → Result (Kept MemDisk) WorldFault → Type 0
Reopens old (Ok new) = IsReopened old new
Reopens old (Err WorldFault.Name) = ⊥
Reopens old (Err (WorldFault.Limit what)) = ⊥
Reopens old (Err WorldFault.NoMemory) = Unit {0}

-- ---- the start

-- records that a site may start on: they are in order, and there is a next boot number
pub record IsStartable (rs : List LogRec) : Type 0 where
  pub order : all_follow rs ≡ true
  pub boot : last_number (boots rs) < greatest

-- the site of that name has started on the journal; or the log has no room for the next boot. On records that it may start on no
-- record is foreign, and the boots are not spent
abbrev pub StartsOn : Kept MemDisk → List ℕ → Result SiteSlot WorldFault → Type 0
StartsOn journal name (Ok new) = IsStarted standing journal name new.site
StartsOn journal name (Err WorldFault.Name) = ⊥
StartsOn journal name (Err (WorldFault.Limit what)) = (what ≡ What.Log) × (size : ℕ) × (left : Kept MemDisk)
    × IsUnstarted standing journal name (force.Full size) left
StartsOn journal name (Err WorldFault.NoMemory) = Unit {0}

-- ---- the nodes

abbrev pub stopped : Node → Node
stopped n = record n { history = crashed n.history }

abbrev pub as_it_is : Node → Node
as_it_is n = n

-- at the site of that name
abbrev pub turned_at : (Node → Node) → List ℕ → Node → Node
turned_at f s n = elim (is_name (site_of n) s) [ true ↦ f n | false ↦ n ]

-- the first so many nodes of the site are declared again; of the others f tells what they are
abbrev pub restarted_to : (Node → Node) → List ℕ → ℕ → List Node → List Node
restarted_to f s i [] = []
restarted_to f s zero (n ∷ ns) = turned_at f s n ∷ restarted_to f s zero ns
restarted_to f s (suc i) (n ∷ ns) = turned_at restarted s n ∷ restarted_to f s i ns

-- the tree of a node's transaction, as the site knows it; of a node whose entry is lost it is the one from before
abbrev pub tree_before : SiteSlot → Option LostEntry → ℕ → Option NodeTree
tree_before x None k = tree_in (known_at x.site k)
tree_before x (Some e) k = elim (e.node == k) [ true ↦ e.tree | false ↦ tree_in (known_at x.site k) ]

-- no two nodes have one number; the trees of the site's nodes are those before the stop, and the site that starts again knows what
-- a stop leaves
pub record IsStopped (ns : List Node) (old : SiteSlot) (lost : Option LostEntry) (first : SiteSlot) : Type 0 where
  pub apart : are_apart ns ≡ true
  pub trees : (n : Node) → find_node ns (number_of n) ≡ Some n → is_name (site_of n) first.site.nodes.site ≡ true
      → tree_before old lost (number_of n) ≡ tree_in (digest n.origin n.history)
  pub found : (k : ℕ) → known_at first.site k
      ≡ known_by first.site.nodes.site (unknown_at first) (find_node (restarted_to stopped first.site.nodes.site 0 ns) k)

-- so many nodes are declared again at the site: their facts of trees are those of their histories, and the site knows them
pub record IsRestartedTo (ns : List Node) (i : ℕ) (first : SiteSlot) (xs : List NodeSlot) (next : SiteSlot) : Type 0 where
  pub nodes : AreNodes (restarted_to as_it_is first.site.nodes.site i ns) xs
  pub known : (k : ℕ) → known_at next.site k ≡ known_by first.site.nodes.site (unknown_at next) (find_node (restarted_to stopped first.site.nodes.site i ns) k)
  pub same : IsSameSite first.site.nodes next.site.nodes
  pub keeper : next.site.keeper ≡ first.site.keeper
  pub unshut : next.site.shut ≡ None

abbrev pub RestartsTo : List Node → ℕ → SiteSlot → Result (Unit {0}) WorldFault → List NodeSlot → SiteSlot → Type 0
RestartsTo ns i first (Ok u) xs next = IsRestartedTo ns i first xs next
RestartsTo ns i first (Err WorldFault.Name) xs next = ⊥
RestartsTo ns i first (Err (WorldFault.Limit what)) xs next = ⊥
RestartsTo ns i first (Err WorldFault.NoMemory) xs next = Unit {0}
