-- A site of a world that stops and starts again: the world after it, in the code and in the definitions.
use Rattle.std.proofs.Common.{◌≡◌, ◌<◌, ◌+◌, ◌++◌, ℕ, zero, suc, Bool, true, false, cond, refl, ap, sym, ◌∙◌, subst, arith, Option, Some, None, Ok, Err, List, [], ◌∷◌, length, slice_set, slice_index_or}
use Rattle.std.specs.List.{AllByRecursion}
use Rattle.std.specs.Option.{is_some, option_map}
use Rattle.tp_names.specs.Same.{is_name}
use Rattle.tp_names.proofs.Sames.{name_same}
use Rattle.tp_model.specs.declared.out_line.LogWords.{LogWords}
use Rattle.tp_model.specs.declared.out_line.OutLine.{OutLine}
use Rattle.tp_model.specs.declared.verdict.What.{What}
use Rattle.tp_outside.specs.declared.mem_disk.MemDisk.{MemDisk}
use Rattle.tp_outside.specs.MemDisk.{recorded}
use Rattle.tp_journal.specs.Journals.{Kept}
use Rattle.tp_journal.specs.Told.{IsOn}
use Rattle.tp_model.specs.Disk.{disk_bytes}
use Rattle.tp_model.specs.Happenings.{still, booted, restarted, restarted_at, crash_turn, WorldTurn}
use Rattle.tp_model.specs.Lines.{within_limits}
use Rattle.tp_model.specs.Parts.{Digest}
use Rattle.tp_model.specs.World.{World, Node, Site, Frame, number_of, site_of, find_node, find_site, put_site}
use Rattle.tp_laws.specs.SiteLogs.{DisksTell, DisksStart, StartsNext}
use Rattle.tp_names.specs.declared.identifiers.Aaid.{Aaid}
use Rattle.tp_journal.specs.declared.faults.ForceFault.TheVariants as force
use Rattle.tp_model.specs.History.{digest}
use Rattle.tp_site.specs.Site.{IsStarted, IsUnstarted, known_at}
use Rattle.tp_site.specs.State.{tree_in}
use Rattle.tp_world_sites.specs.Slots.{standing}
use Rattle.tp_network.specs.declared.nodes.NodeSlot.{NodeSlot}
use Rattle.tp_world_sites.specs.declared.fault.WorldFault.{WorldFault}
use Rattle.tp_world_sites.specs.declared.site_slot.SiteSlot.{SiteSlot}
use Rattle.tp_world.specs.declared.world.World.{World as CodeWorld}
use Rattle.tp_world_sites.specs.declared.restart.LostEntry.{LostEntry}
use Rattle.tp_world_sites.specs.Restarts.{stopped, as_it_is, turned_at, restarted_to, tree_before, IsStartable, StartsOn, IsStopped, IsRestartedTo}
use Rattle.tp_world_sites.specs.Sites.{IsSite, AreSites, KnowNodes, find_site_slot, place_of_site, known_by, unknown_at}
use Rattle.tp_world_sites.specs.Standing.{SitesStand, RestStands, AreNodes, are_apart, is_placed}
use Rattle.tp_world.specs.World.{Mirrors, Gives}
use Rattle.tp_world.proofs.Booting.{startable, boot_over, site_next, knows_stopped}
use Rattle.tp_world_sites.proofs.Found.{AreThere, placed_there, put_site_there}
use Rattle.tp_world_sites.proofs.Known.{known_here, known_elsewhere}
use Rattle.tp_world.proofs.Limits.{not_full, within_all, within_log, gives_ok, gives_limit}
use Rattle.tp_world_sites.proofs.Newcomers.{some_there}
use Rattle.tp_world_sites.proofs.SiteLists.{IsFound, both_found, are_put, full_put, site_name}
use Rattle.tp_world_sites.proofs.SiteNames.{slot_found, slot_put}
use Rattle.tp_world_sites.proofs.Turned.{turned_here, turned_there, apart_to, find_turned, none_turned, all_turned, all_restarted}

-- ---- the site at the place of the name

pub record IsThere (w : World) (s : List ℕ) (xs : List SiteSlot) (x : SiteSlot) : Type 0 where
  pub site : Site
  pub found : find_site w.sites s ≡ Some site
  pub there : find_site_slot xs s ≡ Some x
  pub is : IsSite site x
  pub within : place_of_site xs s < length xs

pub there : (w : World) (s : List ℕ) (xs : List SiteSlot) (x : SiteSlot) → SitesStand w xs → place_of_site xs s < length xs → slice_index_or xs (place_of_site xs s) x ≡ x → IsThere w s xs x
there w s xs x stand within at =
    let slot : find_site_slot xs s ≡ Some x = slot_found xs s x within ∙ ap Some at in
    let z : (z : Site) × (find_site w.sites s ≡ Some z) = some_there w s xs x stand slot in
    let both : IsFound z.0 s xs = both_found w.sites xs s z.0 stand.sites z.1 in
    let self : Some both.slot ≡ Some x = sym both.found ∙ slot in
    let same : both.slot ≡ x = cc (self) in
    record { site = z.0; found = z.1; there = slot; is = subst (IsSite z.0) same both.site; within = within }

pub place_there : (w : World) (s : List ℕ) (xs : List SiteSlot) (x : SiteSlot) (k : ℕ) → SitesStand w xs → k ≡ place_of_site xs s → k < length xs → slice_index_or xs k x ≡ x → IsThere w s xs x
place_there w s xs x k stand place within is =
    there w s xs x stand (subst (λ (j : ℕ). j < length xs) place within) (ap (λ (j : ℕ). slice_index_or xs j x) (sym place) ∙ is)

-- what stands at an index does not depend on what is told past the end
pub same_index : (xs : List SiteSlot) (k : ℕ) (a b : SiteSlot) → k < length xs → slice_index_or xs k a ≡ slice_index_or xs k b
same_index [] k a b h = absurd (omega (arith, h))
same_index (x ∷ xs) zero a b h = refl
same_index (x ∷ xs) (suc k) a b h = same_index xs k a b (omega (arith, h))

-- ---- the start

module _ (w : World) (s : List ℕ) (xs : List SiteSlot) (x : SiteSlot) (stand : SitesStand w xs) (apart : are_apart w.nodes ≡ true) (tells : DisksTell w) (starts : DisksStart w) (at : IsThere w s xs x) where
  name : at.site.name ≡ s
  name = site_name w.sites s at.site at.found

  next : StartsNext w at.site
  next = starts s at.site at.found

  pub may_start : IsStartable x.site.keeper.list
  may_start = startable w at.site x at.is next

  module _ (y : SiteSlot) (h : IsStarted standing x.site.keeper x.site.nodes.site y.site) where
    pub site_again : IsSite (booted at.site) y
    site_again = site_next w at.site x y at.is next h

    pub name_again : y.site.nodes.site ≡ s
    name_again = site_again.name ∙ name

    knows_tree : (n : Node) → find_node w.nodes (number_of n) ≡ Some n → is_name (site_of n) y.site.nodes.site ≡ true → tree_in (known_at x.site (number_of n)) ≡ tree_in (digest n.origin n.history)
    knows_tree n found here =
        let on : is_name (site_of n) s ≡ true = ap (is_name (site_of n)) (sym name_again) ∙ here in
        ap tree_in (stand.known s x at.there (number_of n) ∙ ap (known_by s (unknown_at x)) found ∙ known_here s (unknown_at x) n on)

    pub has_stopped : (old : SiteSlot) (lost : Option LostEntry) → ((k : ℕ) → tree_before old lost k ≡ tree_in (known_at x.site k)) → IsStopped w.nodes old lost y
    has_stopped old lost trees = record {
      apart = apart;
      trees = λ n found here. trees (number_of n) ∙ knows_tree n found here;
      found = subst (λ (a : List ℕ). (k : ℕ) → known_at y.site k ≡ known_by a (unknown_at y) (find_node (restarted_to stopped a 0 w.nodes) k)) (sym name_again)
          (knows_stopped w at.site x y at.is next h (tells s at.site at.found) s name);
    }

    -- none of the nodes is declared again yet
    pub restarted_none : (ns : List NodeSlot) → AreNodes w.nodes ns → IsRestartedTo w.nodes 0 y ns y
    restarted_none ns are = record {
      nodes = subst (λ (l : List Node). AreNodes l ns) (sym (none_turned y.site.nodes.site w.nodes)) are;
      known = (has_stopped x None (λ k. refl)).found;
      same = record { site = refl; boot = refl; version = refl };
      keeper = refl;
      unshut = site_again.unshut;
    }

-- ---- the nodes

abbrev again_by : List ℕ → Option Node → Option Node
again_by s o = option_map (turned_at restarted s) o

find_restarted : (s : List ℕ) (ns : List Node) (k : ℕ) → find_node (restarted_at s ns) k ≡ again_by s (find_node ns k)
find_restarted s ns k = ap (λ (l : List Node). find_node l k) (sym (all_restarted s ns)) ∙ find_turned restarted (λ n. refl) s ns k

-- another site knows what it knew
known_other : (s t : List ℕ) (u : Digest) (o : Option Node) → is_name s t ≡ false → known_by t u (again_by s o) ≡ known_by t u o
known_other s t u None other = refl
known_other s t u (Some n) other = go (is_name (site_of n) s) refl
  where
    go : (b : Bool) → is_name (site_of n) s ≡ b → known_by t u (Some (turned_at restarted s n)) ≡ known_by t u (Some n)
    go true e =
        let away : is_name (site_of n) t ≡ false = ap (λ (a : List ℕ). is_name a t) (name_same (site_of n) s e) ∙ other in
        ap (λ (m : Node). known_by t u (Some m)) (turned_here restarted s n e) ∙ known_elsewhere t u (restarted n) away ∙ sym (known_elsewhere t u n away)
    go false e = ap (λ (m : Node). known_by t u (Some m)) (turned_there restarted s n e)

-- ---- the world after it

abbrev pub after_crash_of : World → List ℕ → Site → World
after_crash_of w s z = record w { nodes = restarted_at s w.nodes; sites = put_site w.sites (booted z) }

-- all nodes and sites are there
some_mapped : {A B : Type 0} (f : A → B) (o : Option A) → is_some (option_map f o) ≡ is_some o
some_mapped f None = refl
some_mapped f (Some x) = refl

after_there : (w : World) (s : List ℕ) (z : Site) → AreThere w (after_crash_of w s z)
after_there w s z = record {
  nodes = λ k h. ap is_some (find_restarted s w.nodes k) ∙ some_mapped (turned_at restarted s) (find_node w.nodes k) ∙ h;
  sites = λ t h. put_site_there w.sites (booted z) t ∙ h;
}

placed_again : (w : World) (s : List ℕ) (ns : List Node) → AllByRecursion (λ n. is_placed w n ≡ true) ns → AllByRecursion (λ n. is_placed w n ≡ true) (restarted_at s ns)
placed_again w s [] h = tt
placed_again w s (n ∷ ns) h = go (is_name (site_of n) s) (placed_again w s ns h.1)
  where
    go : (b : Bool) → AllByRecursion (λ m. is_placed w m ≡ true) (restarted_at s ns)
        → AllByRecursion (λ m. is_placed w m ≡ true) (elim b as (λ _. List Node) [ true ↦ restarted n ∷ restarted_at s ns | false ↦ n ∷ restarted_at s ns ])
    go true rest = (h.0, rest)
    go false rest = (h.0, rest)

each_there : (w v : World) (ns : List Node) → AreThere w v → AllByRecursion (λ n. is_placed w n ≡ true) ns → AllByRecursion (λ n. is_placed v n ≡ true) ns
each_there w v [] t h = tt
each_there w v (n ∷ ns) t h = (placed_there w v n t h.0, each_there w v ns t h.1)

abbrev turn_for : World → List ℕ → Option Site → WorldTurn
turn_for w s o = elim o as (λ _. WorldTurn) [
  | None ↦ still w
  | Some x ↦ record {
    world = record w { nodes = restarted_at s w.nodes; sites = put_site w.sites (booted x) };
    lines = OutLine.Log s (LogWords.Boot (suc x.boot)) ∷ [];
    told = [];
  }
]

module _ (w : World) (s : List ℕ) (xs : List SiteSlot) (ns0 : List NodeSlot) (fs : List Frame) (ts : List Aaid) (x : SiteSlot) (stand : SitesStand w xs) (rest : RestStands w ns0 fs ts) (tells : DisksTell w) (starts : DisksStart w) (at : IsThere w s xs x) where
  turn_is : crash_turn w s ≡ turn_for w s (Some at.site)
  turn_is = ap (turn_for w s) at.found

  module _ (y z : SiteSlot) (h : IsStarted standing x.site.keeper x.site.nodes.site y.site) (ns : List NodeSlot) (to : IsRestartedTo w.nodes (length w.nodes) y ns z) where
    again : IsSite (booted at.site) y
    again = site_again w s xs x stand rest.apart tells starts at y h

    named : y.site.nodes.site ≡ s
    named = name_again w s xs x stand rest.apart tells starts at y h

    site : IsSite (booted at.site) z
    site = record {
      name = to.same.site ∙ again.name;
      boot = to.same.boot ∙ again.boot;
      version = to.same.version ∙ again.version;
      unshut = to.unshut;
      log = record {
        list = ap (λ j. j.list) to.keeper ∙ again.log.list;
        wide = ap (λ j. j.wide) to.keeper ∙ again.log.wide;
        gate = ap (λ j. j.gate + 1) to.keeper ∙ again.log.gate;
        unshut = ap (λ j. j.shut) to.keeper ∙ again.log.unshut;
        room = again.log.room;
        closed = again.log.closed;
        bytes = subst (λ (j : Kept MemDisk). IsOn (Some (recorded j.disk).story) (disk_bytes (booted at.site).disk)) (sym to.keeper) again.log.bytes;
      };
    }

    all : (f : Node → Node) → restarted_to f y.site.nodes.site (length w.nodes) w.nodes ≡ restarted_at s w.nodes
    all f = all_turned f y.site.nodes.site w.nodes ∙ all_restarted y.site.nodes.site w.nodes ∙ ap (λ (a : List ℕ). restarted_at a w.nodes) named

    knows : (k : ℕ) → known_at z.site k ≡ known_by s (unknown_at z) (find_node (restarted_at s w.nodes) k)
    knows k = to.known k ∙ ap (λ (a : List ℕ). known_by a (unknown_at z) (find_node (restarted_to stopped y.site.nodes.site (length w.nodes) w.nodes) k)) named ∙ ap (λ (l : List Node). known_by s (unknown_at z) (find_node l k)) (all stopped)

    lookup : (t : List ℕ) → find_site_slot (slice_set xs (place_of_site xs s) z) t ≡ cond (is_name s t) (Some z) (find_site_slot xs t)
    lookup t = slot_put xs s z t at.within (to.same.site ∙ named)

    all_known : KnowNodes (slice_set xs (place_of_site xs s) z) (restarted_at s w.nodes)
    all_known t v is k = go (is_name s t) refl
      where
        go : (b : Bool) → is_name s t ≡ b → known_at v.site k ≡ known_by t (unknown_at v) (find_node (restarted_at s w.nodes) k)
        go true here =
            let same : Some v ≡ Some z = sym is ∙ lookup t ∙ ap (λ (c : Bool). cond c (Some z) (find_site_slot xs t)) here in
            let one : v ≡ z = cc (same) in
            subst (λ (q : SiteSlot). known_at q.site k ≡ known_by t (unknown_at q) (find_node (restarted_at s w.nodes) k)) (sym one)
            (subst (λ (a : List ℕ). known_at z.site k ≡ known_by a (unknown_at z) (find_node (restarted_at s w.nodes) k)) (name_same s t here) (knows k))
        go false other =
            let same : find_site_slot xs t ≡ Some v = sym (lookup t ∙ ap (λ (c : Bool). cond c (Some z) (find_site_slot xs t)) other) ∙ is in
            stand.known t v same k ∙ sym (known_other s t (unknown_at v) (find_node w.nodes k) other) ∙ ap (known_by t (unknown_at v)) (sym (find_restarted s w.nodes k))

    sites_after : SitesStand (after_crash_of w s at.site) (slice_set xs (place_of_site xs s) z)
    sites_after = record {
      sites = subst (λ (a : List ℕ). AreSites (put_site w.sites (booted at.site)) (slice_set xs (place_of_site xs a) z)) (site_name w.sites s at.site at.found) (are_put w.sites xs (booted at.site) z stand.sites site);
      known = all_known;
    }

    rest_after : RestStands (after_crash_of w s at.site) ns fs ts
    rest_after = record {
      nodes = subst (λ (l : List Node). AreNodes l ns) (all as_it_is) to.nodes;
      apart = ap are_apart (sym (all_restarted s w.nodes)) ∙ apart_to restarted (λ n. refl) s 0 w.nodes ∙ rest.apart;
      placed = each_there w (after_crash_of w s at.site) (restarted_at s w.nodes) (after_there w s at.site) (placed_again w s w.nodes rest.placed);
      frames = rest.frames;
      few = rest.few;
      trees = rest.trees;
      undriven = rest.undriven;
    }

    -- the line
    pub gives_crash : (new : CodeWorld) (before after : List OutLine) (u : Unit {0}) → new.sites.items ≡ slice_set xs (place_of_site xs s) z → new.nodes ≡ ns → new.frames ≡ fs → new.trees.items ≡ ts
        → after ≡ before ++ OutLine.Log y.site.nodes.site (LogWords.Boot y.site.nodes.boot) ∷ [] → Gives (within_limits (crash_turn w s)) before (Ok u) after new
    gives_crash new before after u sites nodes frames trees lines =
        let t : WorldTurn = turn_for w s (Some at.site) in
        let stands : Mirrors t.world new = record {
          sites = subst (SitesStand (after_crash_of w s at.site)) (sym sites) sites_after;
          rest = subst (λ (l : List NodeSlot). RestStands (after_crash_of w s at.site) l new.frames new.trees.items) (sym nodes)
              (subst (λ (l : List Frame). RestStands (after_crash_of w s at.site) ns l new.trees.items) (sym frames)
              (subst (λ (l : List Aaid). RestStands (after_crash_of w s at.site) ns fs l) (sym trees) rest_after));
        } in
        let within : within_limits (crash_turn w s) ≡ Ok t = ap within_limits turn_is ∙ within_all t (not_full (put_site w.sites (booted at.site)) (slice_set xs (place_of_site xs s) z) sites_after.sites) rest.few in
        gives_ok (within_limits (crash_turn w s)) t before after new u within
        (lines ∙ ap (λ (a : List ℕ). before ++ OutLine.Log a (LogWords.Boot y.site.nodes.boot) ∷ []) named ∙ ap (λ (n : ℕ). before ++ OutLine.Log s (LogWords.Boot n) ∷ []) again.boot)
        stands

  -- or its log has no room for the boot
  pub gives_full : (before after : List OutLine) (new : CodeWorld) (size : ℕ) (left : Kept MemDisk) → IsUnstarted standing x.site.keeper x.site.nodes.site (force.Full size) left → Gives (within_limits (crash_turn w s)) before (Err (WorldFault.Limit What.Log)) after new
  gives_full before after new size left h =
      gives_limit (within_limits (crash_turn w s)) What.Log before after new
      (ap within_limits turn_is ∙ within_log (turn_for w s (Some at.site))
      (full_put w.sites s at.site (booted at.site) at.found (site_name w.sites s at.site at.found) (boot_over w at.site x size left at.is (starts s at.site at.found) h)))

  pub gives_fault : (f : WorldFault) (before after : List OutLine) (new : CodeWorld) → StartsOn x.site.keeper x.site.nodes.site (Err f) → Gives (within_limits (crash_turn w s)) before (Err f) after new
  gives_fault WorldFault.Name before after new h = absurd h
  gives_fault (WorldFault.Limit what) before after new h = subst (λ (q : What). Gives (within_limits (crash_turn w s)) before (Err (WorldFault.Limit q)) after new) (sym h.0) (gives_full before after new h.1 h.2 h.3)
  gives_fault WorldFault.NoMemory before after new h = tt
