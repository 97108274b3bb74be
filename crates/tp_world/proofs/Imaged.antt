-- The image of a site's disk, in the code and in the definitions.
use Rattle.std.proofs.Common.{◌≡◌, ◌++◌, ℕ, Bool, true, false, refl, ap, ◌∙◌, Option, Some, None, Result, Ok, Err, List, [], ◌∷◌}
use Rattle.tp_outside.specs.MemDisk.{recorded}
use Rattle.tp_outside.specs.Story.{seen}
use Rattle.tp_model.specs.declared.out_line.OutLine.{OutLine}
use Rattle.tp_model.specs.Disk.{disk_bytes}
use Rattle.tp_model.specs.Happenings.{WorldTurn}
use Rattle.tp_model.specs.Lines.{Fault, Name, shows, image_line}
use Rattle.tp_model.specs.World.{World, Site, find_site, is_site}
use Rattle.tp_world.specs.World.{Mirrors, Gives}
use Rattle.tp_world_sites.specs.declared.fault.WorldFault.{WorldFault}
use Rattle.tp_world_sites.specs.declared.site_slot.SiteSlot.{SiteSlot}
use Rattle.tp_world.specs.declared.world.World.{World as CodeWorld}
use Rattle.tp_world.proofs.Crashing.{IsThere}
use Rattle.tp_world.proofs.Limits.{gives_ok, gives_name}

abbrev image_by : World → List ℕ → Option Site → Result WorldTurn Fault
image_by w s o = elim o [ None ↦ Err Name | Some x ↦ Ok (shows w (OutLine.Image s (disk_bytes x.disk) ∷ [])) ]

pub gives_no_image : (w : World) (s : List ℕ) (before after : List OutLine) (v : CodeWorld) → is_site w s ≡ false → Gives (image_line w s) before (Err WorldFault.Name) after v
gives_no_image w s before after v missing = gives_name (image_line w s) before after v (go (find_site w.sites s) missing)
  where
    go : (o : Option Site) → elim o as (λ _. Bool) [ None ↦ false | Some x ↦ true ] ≡ false → image_by w s o ≡ Err Name
    go None h = refl
    go (Some x) h = absurd cc

pub gives_image : (w : World) (s : List ℕ) (v : CodeWorld) (x : SiteSlot) (bytes : List ℕ) (before after : List OutLine) (u : Unit {0}) → Mirrors w v → IsThere w s v.sites.items x → bytes ≡ seen (recorded x.site.keeper.disk).story
    → after ≡ before ++ OutLine.Image s bytes ∷ [] → Gives (image_line w s) before (Ok u) after v
gives_image w s v x bytes before after u h at same lines =
    gives_ok (image_line w s) (shows w (OutLine.Image s (disk_bytes at.site.disk) ∷ [])) before after v u (ap (image_by w s) at.found)
    (lines ∙ ap (λ (b : List ℕ). before ++ OutLine.Image s b ∷ []) (same ∙ at.is.log.bytes.1)) h
