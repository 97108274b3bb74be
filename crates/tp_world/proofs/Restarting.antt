-- A site that has stopped, and starts again on a journal, as the code does it.
use Rattle.std.proofs.Common.{◌≡◌, ◌<◌, ℕ, ap, sym, ◌∙◌, subst, Option, None, Result, Ok, Err, List, length, slice_set, slice_index_or}
use Rattle.tp_outside.specs.declared.mem_disk.MemDisk.{MemDisk}
use Rattle.tp_journal.specs.Journals.{Kept}
use Rattle.tp_model.specs.declared.out_line.OutLine.{OutLine}
use Rattle.tp_model.specs.Happenings.{crash_turn}
use Rattle.tp_model.specs.Lines.{within_limits}
use Rattle.tp_model.specs.World.{World}
use Rattle.tp_laws.specs.SiteLogs.{DisksTell, DisksStart}
use Rattle.tp_site.specs.Site.{IsStarted}
use Rattle.tp_world_sites.specs.Restarts.{tree_before, IsStartable, StartsOn, IsStopped, IsRestartedTo}
use Rattle.tp_world.specs.Halts.{HasStoppedAs}
use Rattle.tp_world_sites.specs.Slots.{standing}
use Rattle.tp_world_sites.specs.Sites.{place_of_site}
use Rattle.tp_world.specs.World.{Gives}
use Rattle.tp_world_sites.specs.declared.fault.WorldFault.{WorldFault}
use Rattle.tp_world_sites.specs.declared.restart.LostEntry.{LostEntry}
use Rattle.tp_world_sites.specs.declared.site_slot.SiteSlot.{SiteSlot}
use Rattle.tp_world.specs.declared.world.World.{World as CodeWorld}
use Rattle.tp_world.proofs.Crashing.{IsThere, same_index, may_start, has_stopped, restarted_none, gives_fault}
use Rattle.tp_world.proofs.Halted.{stood_there}
use Rattle.tp_world_sites.proofs.SiteLists.{site_name}

module _ (w : World) (s : List ℕ) (v : CodeWorld) (place : ℕ) (lost : Option LostEntry) (journal : Kept MemDisk) (x slot : SiteSlot) (tells : DisksTell w) (starts : DisksStart w) (is : place ≡ place_of_site v.sites.items s) (stop : HasStoppedAs w v place lost journal x)
    (within : place < length v.sites.items) (here : slot ≡ slice_index_or v.sites.items place slot) where
  abbrev xs : List SiteSlot
  xs = slice_set v.sites.items place x

  pub at : IsThere w s xs x
  at = stood_there w s v.sites.items place x stop.sites is within stop.name

  pub may : IsStartable journal.list
  may = subst (λ (j : Kept MemDisk). IsStartable j.list) stop.log (may_start w s xs x stop.sites stop.rest.apart tells starts at)

  pub unshut : journal.shut ≡ None
  unshut = ap (λ (j : Kept MemDisk). j.shut) (sym stop.log) ∙ at.is.log.unshut

  slot_same : slot ≡ slice_index_or v.sites.items place x
  slot_same = here ∙ same_index v.sites.items place slot x within

  name : slot.site.nodes.site ≡ x.site.nodes.site
  name = ap (λ (q : SiteSlot). q.site.nodes.site) slot_same ∙ stop.name

  pub named : slot.site.nodes.site ≡ s
  named = name ∙ at.is.name ∙ site_name w.sites s at.site at.found

  pub started_as : (r : Result SiteSlot WorldFault) → StartsOn journal slot.site.nodes.site r → StartsOn x.site.keeper x.site.nodes.site r
  started_as r h = subst (λ (j : Kept MemDisk). StartsOn j x.site.nodes.site r) (sym stop.log) (subst (λ (a : List ℕ). StartsOn journal a r) name h)

  pub fails : (f : WorldFault) (before after : List OutLine) (new : CodeWorld) → StartsOn journal slot.site.nodes.site (Err f) → Gives (within_limits (crash_turn w s)) before (Err f) after new
  fails f before after new h = gives_fault w s xs v.nodes v.frames v.trees.items x stop.sites stop.rest tells starts at f before after new (started_as (Err f) h)

  module _ (y : SiteSlot) (h : StartsOn journal slot.site.nodes.site (Ok y)) where
    pub started_here : IsStarted standing x.site.keeper x.site.nodes.site y.site
    started_here = started_as (Ok y) h

    pub stopped : (old : SiteSlot) → old ≡ slice_index_or v.sites.items place old → IsStopped w.nodes old lost y
    stopped old same = has_stopped w s xs x stop.sites stop.rest.apart tells starts at y started_here old lost (λ k. ap (λ (q : SiteSlot). tree_before q lost k) (same ∙ same_index v.sites.items place old x within) ∙ stop.trees k)

    pub none : IsRestartedTo w.nodes 0 y v.nodes y
    none = restarted_none w s xs x stop.sites stop.rest.apart tells starts at y started_here v.nodes stop.rest.nodes
