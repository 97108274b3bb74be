-- A node comes at a site, and a new site.
use Rattle.std.proofs.Common.{◌≡◌, ◌<◌, ◌==◌, ◌++◌, ℕ, Bool, true, false, cond, refl, ap, sym, ◌∙◌, subst, arith, Option, Some, None, List, [], ◌∷◌, ◌≤◌, ◌&&◌, length, length-append, slice_set, slice_index_or}
use Rattle.std.specs.List.{AllByRecursion}
use Rattle.tp_logrec.specs.declared.record.LogRec.{LogRec}
use Rattle.tp_logrec.specs.declared.record.LogVersion.{LogVersion}
use Rattle.tp_names.specs.declared.identifiers.Addr.{Addr}
use Rattle.tp_names.specs.Same.{is_name}
use Rattle.tp_names.proofs.Sames.{name_same}
use Rattle.tp_model.specs.Events.{action, started}
use Rattle.tp_model.specs.declared.out_line.LogWords.{LogWords}
use Rattle.tp_model.specs.declared.out_line.OutLine.{OutLine}
use Rattle.tp_model.specs.Happenings.{still, new_node, new_site, with_node, declared_at, WorldTurn}
use Rattle.tp_model.specs.History.{digest, grown, with_entry}
use Rattle.tp_model.specs.Node.{Move}
use Rattle.tp_model.specs.declared.refusal.Refusal.{Refusal}
use Rattle.tp_model.specs.Refusal.{number_in}
use Rattle.tp_model.specs.Parts.{Who, Origin, Event, Digest, Entry as EntryValue}
use Rattle.tp_model.specs.World.{World, Node, Site, number_of, site_of, find_node, find_site, put_site, is_node, is_site}
use Rattle.tp_site.specs.NodeEvent.{Happens, answer_at}
use Rattle.tp_site.specs.Nodes.{who_at}
use Rattle.tp_site.specs.Site.{IsForced, known_at}
use Rattle.tp_world_sites.specs.NodeAnswers.{Answer}
use Rattle.tp_world_sites.specs.declared.site_slot.Entry.{Entry}
use Rattle.tp_world_sites.specs.declared.site_slot.SiteSlot.{SiteSlot}
use Rattle.tp_world_sites.specs.Placing.{boot_shown, boot_lines, IsAt, IsSiteThere, IsDeclaredAt}
use Rattle.tp_world_sites.specs.Sites.{IsSite, AreSites, find_site_slot, place_of_site, known_by, unknown_at}
use Rattle.tp_world_sites.specs.Slots.{standing, SlotAnswers, HasHappened, IsFresh, Declares}
use Rattle.tp_world_sites.specs.Standing.{SitesStand, is_free, is_placed}
use Rattle.tp_world_sites.proofs.SiteNames.{slot_found, slot_missing, slot_within, slot_there, slot_name, place_most, place_push}
use Rattle.tp_world_sites.proofs.SiteLists.{IsFound, both_found, both_missing, are_put, put_self, are_push, find_push, site_name}
use Rattle.tp_world_sites.proofs.Logs.{log_kept}
use Rattle.tp_world_sites.proofs.Entries.{IsGained, has_gained, declared_first}
use Rattle.tp_world_sites.proofs.Known.{find_append, know_put, know_push, known_elsewhere}

pub free_none : (ns : List Node) (k : ℕ) → is_free k ns ≡ true → find_node ns k ≡ None
free_none [] k h = refl
free_none (n ∷ ns) k h = grind (arith, h, free_none ns k)

pub none_free : (ns : List Node) (k : ℕ) → find_node ns k ≡ None → is_free k ns ≡ true
none_free [] k h = refl
none_free (n ∷ ns) k h = grind (arith, h, none_free ns k)

-- ---- a node at a site that is there

-- a number of which a site knows nothing is known as the start of a new node's history
same_start : (x : SiteSlot) (o : Origin) → x.site.nodes.boot ≡ o.start.boot → x.site.nodes.version ≡ o.start.version → o.start.records ≡ [] → unknown_at x ≡ digest o []
same_start x o = go x.site.nodes.boot o.start.boot x.site.nodes.version o.start.version o.start.records
  where
    go : (b c : ℕ) (v w : LogVersion) (rs : List LogRec) → b ≡ c → v ≡ w → rs ≡ [] → started (record { boot = b; version = v; records = [] }) ≡ started (record { boot = c; version = w; records = rs })
    go b c v w rs p q r = rw (p, q, r) refl

same_who : (s : List ℕ) (w : Who) → s ≡ w.site → ◌≡◌ {A = Who} (record { site = s; node = w.node }) w
same_who s w e = rw e refl

module _ (w : World) (n : Node) (s : Option Addr) (z : Site) (xs : List SiteSlot) (x y : SiteSlot) (stand : SitesStand w xs)
    (found : find_site w.sites (site_of n) ≡ Some z) (free : find_node w.nodes (number_of n) ≡ None) (there : find_site_slot xs (site_of n) ≡ Some x) (is : IsSite z x)
    (boot : n.origin.start.boot ≡ z.boot) (version : n.origin.start.version ≡ LogVersion.Two) (records : n.origin.start.records ≡ []) (grew : n.history ≡ grown n.origin [] (Event.Declare s)) where
  asked : answer_at (who_at x.site.nodes (number_of n)) (known_at x.site (number_of n)) (Event.Declare s) ≡ Happens None (action n.origin.who (digest n.origin []) (Event.Declare s))
  asked =
      let who : who_at x.site.nodes (number_of n) ≡ n.origin.who = same_who x.site.nodes.site n.origin.who (slot_name xs (site_of n) x there) in
      let known : known_at x.site (number_of n) ≡ digest n.origin [] =
      stand.known (site_of n) x there (number_of n) ∙ ap (known_by (site_of n) (unknown_at x)) free ∙ same_start x n.origin (is.boot ∙ sym boot) (is.version ∙ sym version) records in
      ap (λ (p : Who). answer_at p (known_at x.site (number_of n)) (Event.Declare s)) who
      ∙ ap (λ (d : Digest). answer_at n.origin.who d (Event.Declare s)) known
      ∙ declared_first n.origin.who n.origin s records

  -- it has happened with no record
  came : (refusal : Option Refusal) (v : Entry) (h : HasHappened x (number_of n) (Event.Declare s) refusal v y) → SitesStand (with_node w n) (slice_set xs (place_of_site xs (site_of n)) y)
  came refusal v h =
      let same : Happens (number_in refusal) h.move ≡ Happens None (action n.origin.who (digest n.origin []) (Event.Declare s)) = sym h.played.answer ∙ asked in
      let move : h.move ≡ action n.origin.who (digest n.origin []) (Event.Declare s) = cc (same) in
      let none : IsForced standing x.site.keeper None y.site.keeper = subst (λ (m : Move). IsForced standing x.site.keeper m.rec y.site.keeper) move h.played.forced in
      let next : digest n.origin n.history ≡ h.move.next = ap (digest n.origin) grew ∙ next_of move in
      let site : IsSite z y = record {
        name = h.played.site.site ∙ is.name;
        boot = h.played.site.boot ∙ is.boot;
        version = h.played.site.version ∙ is.version;
        unshut = h.played.open_after;
        log = log_kept z x y is.log none;
      } in
      record {
        sites = subst (λ (ss : List Site). AreSites ss (slice_set xs (place_of_site xs (site_of n)) y)) (put_self w.sites (site_of n) z found)
            (subst (λ (b : List ℕ). AreSites (put_site w.sites z) (slice_set xs (place_of_site xs b) y)) (site_name w.sites (site_of n) z found) (are_put w.sites xs z y stand.sites site));
        known = know_put w.nodes (w.nodes ++ n ∷ []) n (λ k. find_append w.nodes n k free) xs x y stand.known there (slot_there xs (site_of n) x there) h.played.site
            (λ t u other. ap (known_by t u) free)
            (λ k. h.played.known k ∙ ap (λ (d : Digest). cond (number_of n == k) d (known_at x.site k)) (sym next));
      }
    where
      next_of : h.move ≡ action n.origin.who (digest n.origin []) (Event.Declare s) → digest n.origin (grown n.origin [] (Event.Declare s)) ≡ h.move.next
      next_of move =
          let g : IsGained n.origin [] (Event.Declare s) None (action n.origin.who (digest n.origin []) (Event.Declare s)) =
          has_gained n.origin [] (Event.Declare s) None (action n.origin.who (digest n.origin []) (Event.Declare s)) (declared_first n.origin.who n.origin s records) in
          ap (λ (e : Option EntryValue). digest n.origin (with_entry e [])) g.entry_is ∙ g.next ∙ ap (λ (m : Move). m.next) (sym move)

  came_in : (a : Answer) → SlotAnswers x (number_of n) (Event.Declare s) a y → SitesStand (with_node w n) (slice_set xs (place_of_site xs (site_of n)) y)
  came_in (Answer.Happened refusal v) h = came refusal v h
  came_in (Answer.Refused k) h = absurd (let clash = sym h.0 ∙ asked in cc (clash))

-- the node is declared at a site that is there
pub declared_there : (w : World) (a : Addr) (s : Option Addr) (z : Site) (xs : List SiteSlot) (x y : SiteSlot) → SitesStand w xs → find_site w.sites a.site ≡ Some z → find_node w.nodes a.node ≡ None
    → slice_index_or xs (place_of_site xs a.site) x ≡ x → Declares x a.node s y → SitesStand (with_node w (new_node a.site a.node z.boot s)) (slice_set xs (place_of_site xs a.site) y)
declared_there w a s z xs x y stand found free at (answer, plays) =
    let both : IsFound z a.site xs = both_found w.sites xs a.site z stand.sites found in
    let self : Some both.slot ≡ Some x = sym both.found ∙ slot_found xs a.site x (slot_there xs a.site both.slot both.found) ∙ ap Some at in
    let same : both.slot ≡ x = cc (self) in
    came_in w (new_node a.site a.node z.boot s) s z xs x y stand found free (both.found ∙ self) (subst (λ (v : SiteSlot). IsSite z v) same both.site) refl refl refl refl answer plays

-- ---- a new site

-- a node that is found stands at a site that is there
all_found : (P : Node → Type 0) (ns : List Node) (k : ℕ) (n : Node) → AllByRecursion P ns → find_node ns k ≡ Some n → P n
all_found P [] k n all h = absurd cc
all_found P (m ∷ ns) k n all h = go (number_of m == k) refl (all_found P ns k n all.1)
  where
    go : (b : Bool) → (number_of m == k) ≡ b → (find_node ns k ≡ Some n → P n) → P n
    go true e rest = let same : m ≡ n = grind (arith, e, h) in subst P same all.0
    go false e rest = rest (grind (arith, e, h))

placed_there : (w : World) (n : Node) (s : List ℕ) → is_placed w n ≡ true → find_site w.sites s ≡ None → is_name (site_of n) s ≡ false
placed_there w n s placed none = go (is_name (site_of n) s) refl
  where
    go : (b : Bool) → is_name (site_of n) s ≡ b → b ≡ false
    go false e = refl
    go true e =
        let here : find_site w.sites (site_of n) ≡ None = ap (find_site w.sites) (name_same (site_of n) s e) ∙ none in
        absurd (let clash : is_placed w n ≡ false = ap (λ (o : Option Site). elim o as (λ _. Bool) [ None ↦ false | Some x ↦ true ] && elim n.superior as (λ _. Bool) [ None ↦ true | Some a ↦ is_node w a.node ]) here in cc (placed, clash))

nobody_there : (w : World) (s : List ℕ) → AllByRecursion (λ n. is_placed w n ≡ true) w.nodes → find_site w.sites s ≡ None → (k : ℕ) (u : Digest) → known_by s u (find_node w.nodes k) ≡ u
nobody_there w s all none k u = go (find_node w.nodes k) refl
  where
    go : (o : Option Node) → find_node w.nodes k ≡ o → known_by s u o ≡ u
    go None e = refl
    go (Some n) e = known_elsewhere s u n (placed_there w n s (all_found (λ m. is_placed w m ≡ true) w.nodes k n all e) none)

-- where the code has no site of that name, the definitions have none
pub none_there : (w : World) (s : List ℕ) (xs : List SiteSlot) → SitesStand w xs → find_site_slot xs s ≡ None → find_site w.sites s ≡ None
none_there w s xs stand none = go (find_site w.sites s) refl
  where
    go : (o : Option Site) → find_site w.sites s ≡ o → o ≡ None
    go None e = refl
    go (Some z) e = let both : IsFound z s xs = both_found w.sites xs s z stand.sites e in absurd (let clash = sym both.found ∙ none in cc (clash))

-- and where it has one, so have they
pub some_there : (w : World) (s : List ℕ) (xs : List SiteSlot) (x : SiteSlot) → SitesStand w xs → find_site_slot xs s ≡ Some x → (z : Site) × (find_site w.sites s ≡ Some z)
some_there w s xs x stand some = go (find_site w.sites s) refl
  where
    go : (o : Option Site) → find_site w.sites s ≡ o → (z : Site) × (find_site w.sites s ≡ Some z)
    go None e = absurd (let clash = sym (both_missing w.sites xs s stand.sites e) ∙ some in cc (clash))
    go (Some z) e = (z, e)

-- whether a site of that name is there, on both sides
pub is_there : (w : World) (s : List ℕ) (xs : List SiteSlot) → SitesStand w xs → place_of_site xs s < length xs → is_site w s ≡ true
is_there w s xs stand within =
    let slot : (x : SiteSlot) × (find_site_slot xs s ≡ Some x) = slot_within xs s within in
    let there : (z : Site) × (find_site w.sites s ≡ Some z) = some_there w s xs slot.0 stand slot.1 in
    ap (λ (o : Option Site). elim o as (λ _. Bool) [ None ↦ false | Some x ↦ true ]) there.1

pub not_there : (w : World) (s : List ℕ) (xs : List SiteSlot) → SitesStand w xs → length xs ≤ place_of_site xs s → is_site w s ≡ false
not_there w s xs stand past = ap (λ (o : Option Site). elim o as (λ _. Bool) [ None ↦ false | Some x ↦ true ]) (none_there w s xs stand (slot_missing xs s past))

-- a site that is there needs no start
pub site_there : (w : World) (s : List ℕ) (xs : List SiteSlot) (x : SiteSlot) → SitesStand w xs → find_site_slot xs s ≡ Some x → IsSiteThere w s None xs
site_there w s xs x stand some =
    let there : (z : Site) × (find_site w.sites s ≡ Some z) = some_there w s xs x stand some in
    record {
      shown = sym (ap (λ (o : Option Site). elim o as (λ _. Option ℕ) [ Some z ↦ None | None ↦ Some 1 ]) there.1);
      stands = subst (λ (v : World). SitesStand v xs) (sym (ap (λ (o : Option Site). elim o as (λ _. World) [ Some z ↦ w | None ↦ record w { sites = w.sites ++ new_site s ∷ [] } ]) there.1)) stand;
    }

-- the place of a new site
pub new_place : (xs : List SiteSlot) (s : List ℕ) (y : SiteSlot) → length xs ≤ place_of_site xs s → IsFresh s y → IsAt (xs ++ y ∷ []) s (place_of_site xs s)
new_place xs s y past fresh =
    let most : place_of_site xs s ≤ length xs = place_most xs s in
    let last : place_of_site xs s ≡ length xs = omega (arith, most, past) in
    let here : place_of_site (xs ++ y ∷ []) s ≡ length xs =
    subst (λ (n : List ℕ). place_of_site (xs ++ y ∷ []) n ≡ length xs) fresh.site.name (place_push xs y (subst (λ (n : List ℕ). find_site_slot xs n ≡ None) (sym fresh.site.name) (slot_missing xs s past))) in
    record { is = last ∙ sym here; within = omega (arith, last, length-append xs (y ∷ [])) }

-- a new site on a fresh log
pub site_came : (w : World) (s : List ℕ) (xs : List SiteSlot) (y : SiteSlot) → SitesStand w xs → AllByRecursion (λ n. is_placed w n ≡ true) w.nodes → find_site_slot xs s ≡ None → IsFresh s y → IsSiteThere w s (Some y.site.nodes.boot) (xs ++ y ∷ [])
site_came w s xs y stand placed none fresh =
    let none_of : find_site w.sites s ≡ None = none_there w s xs stand none in
    let name : s ≡ y.site.nodes.site = sym fresh.site.name in
    let new : SitesStand (record w { sites = w.sites ++ new_site s ∷ [] }) (xs ++ y ∷ []) = record {
      sites = are_push w.sites xs (new_site s) y stand.sites fresh.site;
      known = know_push xs w.nodes y stand.known (subst (λ (n : List ℕ). find_site_slot xs n ≡ None) name none) fresh.unknown
          (subst (λ (n : List ℕ). (k : ℕ) (u : Digest) → known_by n u (find_node w.nodes k) ≡ u) name (nobody_there w s placed none_of));
    } in
    record {
      shown = ap Some fresh.site.boot ∙ sym (ap (λ (o : Option Site). elim o as (λ _. Option ℕ) [ Some z ↦ None | None ↦ Some 1 ]) none_of);
      stands = subst (λ (v : World). SitesStand v (xs ++ y ∷ [])) (sym (ap (λ (o : Option Site). elim o as (λ _. World) [ Some z ↦ w | None ↦ record w { sites = w.sites ++ new_site s ∷ [] } ]) none_of)) new;
    }

-- ---- a node, at its site

abbrev with_new : World → List ℕ → World
with_new w s = record w { sites = w.sites ++ new_site s ∷ [] }

abbrev world_by : World → List ℕ → Option Site → World
world_by w s o = elim o as (λ _. World) [ Some z ↦ w | None ↦ with_new w s ]

abbrev boot_by : Option Site → Option ℕ
boot_by o = elim o as (λ _. Option ℕ) [ Some z ↦ None | None ↦ Some 1 ]

abbrev turn_by : World → Addr → Option Addr → Option Site → WorldTurn
turn_by w a s o = elim o as (λ _. WorldTurn) [
  | Some z ↦ still (with_node w (new_node a.site a.node z.boot s))
  | None ↦ record { world = with_node (with_new w a.site) (new_node a.site a.node 1 s); lines = OutLine.Log a.site (LogWords.Boot 1) ∷ []; told = [] }
]

lines_by : (w : World) (a : Addr) (s : Option Addr) → (declared_at w a.node a.site s).lines ≡ boot_lines a.site (boot_shown w a.site)
lines_by w a s = go (find_site w.sites a.site) refl
  where
    go : (o : Option Site) → find_site w.sites a.site ≡ o → (declared_at w a.node a.site s).lines ≡ boot_lines a.site (boot_shown w a.site)
    go (Some z) e = ap (λ (o : Option Site). (turn_by w a s o).lines) e ∙ sym (ap (λ (o : Option Site). boot_lines a.site (boot_by o)) e)
    go None e = ap (λ (o : Option Site). (turn_by w a s o).lines) e ∙ sym (ap (λ (o : Option Site). boot_lines a.site (boot_by o)) e)

pub declared_in : (w : World) (a : Addr) (s : Option Addr) (boot : Option ℕ) (xs : List SiteSlot) (x y : SiteSlot) → IsSiteThere w a.site boot xs → is_free a.node w.nodes ≡ true
    → slice_index_or xs (place_of_site xs a.site) x ≡ x → Declares x a.node s y → IsDeclaredAt w a s boot (slice_set xs (place_of_site xs a.site) y)
declared_in w a s boot xs x y there free at declares = record { shown = there.shown; lines = lines_by w a s ∙ ap (boot_lines a.site) (sym there.shown); stands = go (find_site w.sites a.site) refl }
  where
    none : find_node w.nodes a.node ≡ None
    none = free_none w.nodes a.node free

    go : (o : Option Site) → find_site w.sites a.site ≡ o → SitesStand (declared_at w a.node a.site s).world (slice_set xs (place_of_site xs a.site) y)
    go (Some z) e =
        subst (λ (v : World). SitesStand v (slice_set xs (place_of_site xs a.site) y)) (sym (ap (λ (o : Option Site). (turn_by w a s o).world) e))
        (declared_there w a s z xs x y (subst (λ (v : World). SitesStand v xs) (ap (world_by w a.site) e) there.stands) e none at declares)
    go None e =
        subst (λ (v : World). SitesStand v (slice_set xs (place_of_site xs a.site) y)) (sym (ap (λ (o : Option Site). (turn_by w a s o).world) e))
        (declared_there (with_new w a.site) a s (new_site a.site) xs x y (subst (λ (v : World). SitesStand v xs) (ap (world_by w a.site) e) there.stands) (find_push w.sites (new_site a.site) e) none at declares)
