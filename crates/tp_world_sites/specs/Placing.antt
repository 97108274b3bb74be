-- A node comes at a site, which is new where there was none of its name.
use Rattle.std.specs.Prelude.{ℕ, ◌≡◌, ◌<◌, Option, Some, None, List, [], ◌∷◌, ◌++◌, length}
use Rattle.tp_names.specs.declared.identifiers.Addr.{Addr}
use Rattle.tp_model.specs.declared.out_line.LogWords.{LogWords}
use Rattle.tp_model.specs.declared.out_line.OutLine.{OutLine}
use Rattle.tp_model.specs.World.{World, find_site}
use Rattle.tp_model.specs.Happenings.{new_site, declared_at}
use Rattle.tp_world_sites.specs.Sites.{place_of_site}
use Rattle.tp_world_sites.specs.Standing.{SitesStand}
use Rattle.tp_world_sites.specs.declared.site_slot.SiteSlot.{SiteSlot}

abbrev pub with_site : World → List ℕ → World
with_site w s = elim (find_site w.sites s) [ Some x ↦ w | None ↦ record w { sites = w.sites ++ new_site s ∷ [] } ]

-- the boot that is to be shown, where the site is new
abbrev pub boot_shown : World → List ℕ → Option ℕ
boot_shown w s = elim (find_site w.sites s) [ Some x ↦ None | None ↦ Some 1 ]

-- the line that shows it
abbrev pub boot_lines : List ℕ → Option ℕ → List OutLine
boot_lines s None = []
boot_lines s (Some n) = OutLine.Log s (LogWords.Boot n) ∷ []

-- the site of that name stands at this place
pub record IsAt (xs : List SiteSlot) (s : List ℕ) (place : ℕ) : Type 0 where
  pub is : place ≡ place_of_site xs s
  pub within : place < length xs

-- it is there, and the sites stand for the world with it
pub record IsSiteThere (w : World) (s : List ℕ) (boot : Option ℕ) (xs : List SiteSlot) : Type 0 where
  pub shown : boot ≡ boot_shown w s
  pub stands : SitesStand (with_site w s) xs

-- the node is declared there
pub record IsDeclaredAt (w : World) (a : Addr) (superior : Option Addr) (boot : Option ℕ) (xs : List SiteSlot) : Type 0 where
  pub shown : boot ≡ boot_shown w a.site
  pub lines : (declared_at w a.node a.site superior).lines ≡ boot_lines a.site boot
  pub stands : SitesStand (declared_at w a.node a.site superior).world xs
