-- A site that has stopped, in the place of the one that stood there: the world with it.
use Rattle.std.proofs.Common.{◌≡◌, ◌<◌, ℕ, suc, Bool, true, false, cond, refl, ap, sym, ◌∙◌, subst, arith, Some, None, Result, Ok, Err, List, [], ◌∷◌, length, slice_set, slice_index_or}
use Rattle.std.proofs.lemmas.List.{length-set, get_or-set_same, set-set}
use Rattle.tp_names.specs.Same.{is_name}
use Rattle.tp_names.proofs.Sames.{name_same, name_self}
use Rattle.tp_outside.specs.declared.mem_disk.MemDisk.{MemDisk}
use Rattle.tp_journal.specs.Journals.{Kept}
use Rattle.tp_model.specs.World.{World, Site, put_site, find_node}
use Rattle.tp_site.specs.Site.{known_at}
use Rattle.tp_site.specs.State.{tree_in}
use Rattle.tp_model.specs.declared.out_line.OutLine.{OutLine}
use Rattle.tp_model.specs.Happenings.{WorldTurn}
use Rattle.tp_model.specs.Lines.{Fault}
use Rattle.tp_world_sites.specs.Restarts.{Reopens}
use Rattle.tp_world.specs.Halts.{HasStoppedAs}
use Rattle.tp_world_sites.specs.declared.fault.WorldFault.{WorldFault}
use Rattle.tp_world_sites.specs.Sites.{IsSite, IsLogged, AreSites, KnowNodes, find_site_slot, place_of_site, known_by, unknown_at}
use Rattle.tp_world_sites.specs.Standing.{SitesStand, RestStands}
use Rattle.tp_world.specs.World.{Mirrors, Gives}
use Rattle.tp_world_sites.specs.declared.site_slot.SiteSlot.{SiteSlot}
use Rattle.tp_world.specs.declared.world.World.{World as CodeWorld}
use Rattle.tp_world.proofs.Booting.{slot_on, log_on}
use Rattle.tp_world.proofs.Crashing.{IsThere, there, place_there, same_index}
use Rattle.tp_world_sites.proofs.SiteLists.{are_put, put_self, site_name}
use Rattle.tp_world_sites.proofs.SiteNames.{slot_found, slot_name, slot_put}

-- ---- the place of the name

pub place_put : (xs : List SiteSlot) (s : List ℕ) (x : SiteSlot) → place_of_site xs s < length xs → x.site.nodes.site ≡ s → place_of_site (slice_set xs (place_of_site xs s) x) s ≡ place_of_site xs s
place_put [] s x within name = absurd (omega arith)
place_put (y ∷ xs) s x within name = go (is_name y.site.nodes.site s) refl (λ k. place_put xs s x k name)
  where
    self : is_name x.site.nodes.site s ≡ true
    self = ap (λ (n : List ℕ). is_name n s) name ∙ name_self s

    go : (b : Bool) → is_name y.site.nodes.site s ≡ b → (place_of_site xs s < length xs → place_of_site (slice_set xs (place_of_site xs s) x) s ≡ place_of_site xs s)
        → place_of_site (slice_set (y ∷ xs) (place_of_site (y ∷ xs) s) x) s ≡ place_of_site (y ∷ xs) s
    go true e rest = grind (arith, e, self)
    go false e rest =
        let one_more : place_of_site (y ∷ xs) s ≡ suc (place_of_site xs s) = grind (arith, e) in
        let tail = rest (omega (arith, one_more, within)) in
        grind (arith, e, tail)

-- the site that stands there, in the definitions and in the code
pub stood_there : (w : World) (s : List ℕ) (xs : List SiteSlot) (place : ℕ) (x : SiteSlot) → SitesStand w (slice_set xs place x) → place ≡ place_of_site xs s → place < length xs
    → (slice_index_or xs place x).site.nodes.site ≡ x.site.nodes.site → IsThere w s (slice_set xs place x) x
stood_there w s xs place x stand is within same = subst (λ (k : ℕ). SitesStand w (slice_set xs k x) → IsThere w s (slice_set xs k x) x) (sym is) go stand
  where
    here : place_of_site xs s < length xs
    here = subst (λ (k : ℕ). k < length xs) is within

    name : x.site.nodes.site ≡ s
    name = sym same ∙ ap (λ (k : ℕ). (slice_index_or xs k x).site.nodes.site) is ∙ slot_name xs s (slice_index_or xs (place_of_site xs s) x) (slot_found xs s x here)

    at : place_of_site (slice_set xs (place_of_site xs s) x) s ≡ place_of_site xs s
    at = place_put xs s x here name

    go : SitesStand w (slice_set xs (place_of_site xs s) x) → IsThere w s (slice_set xs (place_of_site xs s) x) x
    go h =
        let ys : List SiteSlot = slice_set xs (place_of_site xs s) x in
        let count : length ys ≡ length xs = length-set xs (place_of_site xs s) x in
        there w s ys x h (omega (arith, at, count, here)) (ap (λ (k : ℕ). slice_index_or ys k x) at ∙ get_or-set_same xs (place_of_site xs s) x x here)

-- another takes its place
pub set_again : (xs : List SiteSlot) (s : List ℕ) (place : ℕ) (x z : SiteSlot) → place ≡ place_of_site xs s → place < length xs → (slice_index_or xs place x).site.nodes.site ≡ x.site.nodes.site
    → slice_set xs place z ≡ slice_set (slice_set xs place x) (place_of_site (slice_set xs place x) s) z
set_again xs s place x z is within same =
    let here : place_of_site xs s < length xs = subst (λ (k : ℕ). k < length xs) is within in
    let name : x.site.nodes.site ≡ s = sym same ∙ ap (λ (k : ℕ). (slice_index_or xs k x).site.nodes.site) is ∙ slot_name xs s (slice_index_or xs (place_of_site xs s) x) (slot_found xs s x here) in
    let at : place_of_site (slice_set xs place x) s ≡ place = ap (λ (k : ℕ). place_of_site (slice_set xs k x) s) is ∙ place_put xs s x here name ∙ sym is in
    sym (ap (λ (k : ℕ). slice_set (slice_set xs place x) k z) at ∙ set-set xs place x z)

-- ---- another log

module _ (w : World) (s : List ℕ) (xs : List SiteSlot) (y : SiteSlot) (stand : SitesStand w xs) (at : IsThere w s xs y) (z : Site) (j : Kept MemDisk) (same : z.name ≡ at.site.name) (boot : z.boot ≡ at.site.boot) (log : IsLogged z (slot_on y j)) where
  is_site : IsSite z (slot_on y j)
  is_site = record { name = at.is.name ∙ sym same; boot = at.is.boot ∙ sym boot; version = at.is.version; unshut = at.is.unshut; log = log }

  named : z.name ≡ s
  named = same ∙ site_name w.sites s at.site at.found

  lookup : (t : List ℕ) → find_site_slot (slice_set xs (place_of_site xs s) (slot_on y j)) t ≡ cond (is_name s t) (Some (slot_on y j)) (find_site_slot xs t)
  lookup t = slot_put xs s (slot_on y j) t at.within (is_site.name ∙ named)

  knows : KnowNodes (slice_set xs (place_of_site xs s) (slot_on y j)) w.nodes
  knows t v is k = go (is_name s t) refl
    where
      go : (b : Bool) → is_name s t ≡ b → known_at v.site k ≡ known_by t (unknown_at v) (find_node w.nodes k)
      go true here =
          let both : Some v ≡ Some (slot_on y j) = sym is ∙ lookup t ∙ ap (λ (c : Bool). cond c (Some (slot_on y j)) (find_site_slot xs t)) here in
          let one : v ≡ slot_on y j = cc (both) in
          subst (λ (q : SiteSlot). known_at q.site k ≡ known_by t (unknown_at q) (find_node w.nodes k)) (sym one)
          (subst (λ (a : List ℕ). known_at y.site k ≡ known_by a (unknown_at y) (find_node w.nodes k)) (name_same s t here) (stand.known s y at.there k))
      go false other = stand.known t v (sym (lookup t ∙ ap (λ (c : Bool). cond c (Some (slot_on y j)) (find_site_slot xs t)) other) ∙ is) k

  pub slot_stands : SitesStand (record w { sites = put_site w.sites z }) (slice_set xs (place_of_site xs s) (slot_on y j))
  slot_stands = record {
    sites = subst (λ (a : List ℕ). AreSites (put_site w.sites z) (slice_set xs (place_of_site xs a) (slot_on y j))) named (are_put w.sites xs z (slot_on y j) stand.sites is_site);
    known = knows;
  }

-- the log alone is another
pub logs_anew : (w : World) (s : List ℕ) (xs : List SiteSlot) (y : SiteSlot) (j : Kept MemDisk) → SitesStand w xs → (at : IsThere w s xs y) → IsLogged at.site (slot_on y j) → SitesStand w (slice_set xs (place_of_site xs s) (slot_on y j))
logs_anew w s xs y j stand at log =
    subst (λ (ss : List Site). SitesStand (record w { sites = ss }) (slice_set xs (place_of_site xs s) (slot_on y j))) (put_self w.sites s at.site at.found)
    (slot_stands w s xs y stand at at.site j refl refl log)

-- a site has stopped as it is, and its log is that journal
pub stopped_as_it_is : (w : World) (s : List ℕ) (v : CodeWorld) (place : ℕ) (y : SiteSlot) (j : Kept MemDisk) → SitesStand w v.sites.items → RestStands w v.nodes v.frames v.trees.items → place ≡ place_of_site v.sites.items s
    → place < length v.sites.items → slice_index_or v.sites.items place y ≡ y → (at : IsThere w s v.sites.items y) → IsLogged at.site (slot_on y j) → HasStoppedAs w v place None j (slot_on y j)
stopped_as_it_is w s v place y j stand rest is within here at log =
    let slot : slice_index_or v.sites.items place (slot_on y j) ≡ y = same_index v.sites.items place (slot_on y j) y within ∙ here in
    record {
      sites = subst (λ (k : ℕ). SitesStand w (slice_set v.sites.items k (slot_on y j))) (sym is) (logs_anew w s v.sites.items y j stand at log);
      rest = rest;
      log = refl;
      name = ap (λ (q : SiteSlot). q.site.nodes.site) slot;
      trees = λ k. ap (λ (q : SiteSlot). tree_in (known_at q.site k)) slot;
    }

-- ---- on the bytes of its own disk

module _ (w : World) (s : List ℕ) (v : CodeWorld) (place : ℕ) (y : SiteSlot) (stand : Mirrors w v) (is : place ≡ place_of_site v.sites.items s) (within : place < length v.sites.items) (here : slice_index_or v.sites.items place y ≡ y) where
  at : IsThere w s v.sites.items y
  at = place_there w s v.sites.items y place stand.sites is within here

  pub stopped_again : (j : Kept MemDisk) → (y.site.keeper.shut ≡ None → y.site.keeper.wide ≡ true → Reopens y.site.keeper (Ok j)) → HasStoppedAs w v place None j (slot_on y j)
  stopped_again j opens = stopped_as_it_is w s v place y j stand.sites stand.rest is within here at (log_on at.site y j at.is (opens at.is.log.unshut at.is.log.wide))

  -- only memory may be wanting
  pub reopens_fault : (f : WorldFault) (r : Result WorldTurn Fault) (before after : List OutLine) (new : CodeWorld) → (y.site.keeper.shut ≡ None → y.site.keeper.wide ≡ true → Reopens y.site.keeper (Err f)) → Gives r before (Err f) after new
  reopens_fault WorldFault.Name r before after new h = absurd (h at.is.log.unshut at.is.log.wide)
  reopens_fault (WorldFault.Limit what) r before after new h = absurd (h at.is.log.unshut at.is.log.wide)
  reopens_fault WorldFault.NoMemory r before after new h = tt
