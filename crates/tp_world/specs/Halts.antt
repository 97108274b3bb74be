-- A site of a world has stopped.
use Rattle.std.specs.Prelude.{ℕ, ◌≡◌, Option, slice_set, slice_index_or}
use Rattle.tp_outside.specs.declared.mem_disk.MemDisk.{MemDisk}
use Rattle.tp_journal.specs.Journals.{Kept}
use Rattle.tp_model.specs.World.{World}
use Rattle.tp_site.specs.Site.{known_at}
use Rattle.tp_site.specs.State.{tree_in}
use Rattle.tp_world_sites.specs.Standing.{SitesStand, RestStands}
use Rattle.tp_world_sites.specs.declared.restart.LostEntry.{LostEntry}
use Rattle.tp_world_sites.specs.declared.site_slot.SiteSlot.{SiteSlot}
use Rattle.tp_world.specs.declared.world.World.{World as CodeWorld}
use Rattle.tp_world_sites.specs.Restarts.{tree_before}

-- The site at this place has stopped as x, whose log is that journal. Of its nodes' trees it knows what x knows, but for the entry
-- that is lost; all else is as it was.
pub record HasStoppedAs (w : World) (v : CodeWorld) (place : ℕ) (lost : Option LostEntry) (journal : Kept MemDisk) (x : SiteSlot) : Type 0 where
  pub sites : SitesStand w (slice_set v.sites.items place x)
  pub rest : RestStands w v.nodes v.frames v.trees.items
  pub log : x.site.keeper ≡ journal
  pub name : (slice_index_or v.sites.items place x).site.nodes.site ≡ x.site.nodes.site
  pub trees : (k : ℕ) → tree_before (slice_index_or v.sites.items place x) lost k ≡ tree_in (known_at x.site k)
