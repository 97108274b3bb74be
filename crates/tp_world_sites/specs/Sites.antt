-- A site of a world as the code keeps it, and the site of the definitions that it is: its log has exactly the records of the
-- definitions' disk, and what it knows of each of its nodes is what follows from that node's whole history.
use Rattle.std.specs.Prelude.{ℕ, suc, ◌≡◌, ◌≢◌, ◌+◌, nat_lt, true, false, Option, Some, None, List, [], ◌∷◌, reverse, if◌then◌else◌}
use Rattle.tp_logrec.specs.declared.record.LogVersion.{LogVersion}
use Rattle.tp_names.specs.Same.{is_name}
use Rattle.tp_outside.specs.MemDisk.{recorded}
use Rattle.tp_journal.specs.Told.{IsOn}
use Rattle.tp_model.specs.Disk.{disk_bytes}
use Rattle.tp_model.specs.Events.{started}
use Rattle.tp_model.specs.History.{digest}
use Rattle.tp_model.specs.Parts.{Digest}
use Rattle.tp_model.specs.Lines.{log_size, most_bytes}
use Rattle.tp_model.specs.World.{Node, Site, find_node, site_of}
use Rattle.tp_site.specs.Site.{known_at}
use Rattle.tp_site.specs.Nodes.{unknown_start}
use Rattle.tp_world_sites.specs.declared.site_slot.SiteSlot.{SiteSlot}

-- ---- the log

-- the log of the site has the records of the definitions' disk, its length is theirs, and it has not failed
pub record IsLogged (s : Site) (x : SiteSlot) : Type 0 where
  pub list : x.site.keeper.list ≡ reverse s.disk.records
  pub wide : x.site.keeper.wide ≡ true
  pub gate : x.site.keeper.gate + 1 ≡ log_size s.disk.records
  pub unshut : x.site.keeper.shut ≡ None
  pub room : nat_lt most_bytes (log_size s.disk.records) ≡ false
  pub closed : s.disk.gate ≢ 1
  -- its disk has the bytes of theirs, all of them
  pub bytes : IsOn (Some (recorded x.site.keeper.disk).story) (disk_bytes s.disk)

-- ---- the site

pub record IsSite (s : Site) (x : SiteSlot) : Type 0 where
  pub name : x.site.nodes.site ≡ s.name
  pub boot : x.site.nodes.boot ≡ s.boot
  pub version : x.site.nodes.version ≡ LogVersion.Two
  pub unshut : x.site.shut ≡ None
  pub log : IsLogged s x

abbrev pub AreSites : List Site → List SiteSlot → Type 0
AreSites [] [] = Unit {0}
AreSites [] (x ∷ xs) = ⊥
AreSites (s ∷ ss) [] = ⊥
AreSites (s ∷ ss) (x ∷ xs) = IsSite s x × AreSites ss xs

-- ---- found by their names

abbrev pub find_site_slot : List SiteSlot → List ℕ → Option SiteSlot
find_site_slot [] s = None
find_site_slot (x ∷ xs) s = elim (is_name x.site.nodes.site s) [ true ↦ Some x | false ↦ find_site_slot xs s ]

-- after all where there is none
abbrev pub place_of_site : List SiteSlot → List ℕ → ℕ
place_of_site [] s = 0
place_of_site (x ∷ xs) s = elim (is_name x.site.nodes.site s) [ true ↦ 0 | false ↦ suc (place_of_site xs s) ]

-- ---- what they know of their nodes

-- of a number what follows from its node's history, where that stands at the site; of every other what a log with no
-- record of it gives
abbrev pub known_by : List ℕ → Digest → Option Node → Digest
known_by s unknown None = unknown
known_by s unknown (Some n) = if is_name (site_of n) s then digest n.origin n.history else unknown

abbrev pub unknown_at : SiteSlot → Digest
unknown_at x = started (unknown_start x.site.nodes)

-- each site knows its nodes, and no others
abbrev pub KnowNodes : List SiteSlot → List Node → Type 0
KnowNodes xs ns = (s : List ℕ) (x : SiteSlot) → find_site_slot xs s ≡ Some x → (k : ℕ) → known_at x.site k ≡ known_by s (unknown_at x) (find_node ns k)
