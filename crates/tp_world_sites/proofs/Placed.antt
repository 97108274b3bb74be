-- The sites of a world after an event of one of its nodes.
use Rattle.std.proofs.Common.{◌≡◌, ◌≤◌, ◌<◌, ◌==◌, ◌&&◌, ℕ, Bool, true, false, cond, refl, ap, sym, ◌∙◌, subst, arith, Option, Some, None, Result, Ok, Err, List, ◌∷◌, length, slice_set, slice_index_or}
use Rattle.std.specs.Option.{option_map}
use Rattle.std.proofs.lemmas.Bool.Decides.{nat_tests}
use Rattle.std.proofs.lemmas.List.{set-get_or}
use Rattle.tp_names.specs.declared.identifiers.Addr.{Addr}
use Rattle.tp_logrec.specs.declared.record.LogRec.{LogRec}
use Rattle.tp_names.proofs.Sames.{name_self}
use Rattle.tp_journal.specs.declared.faults.ForceFault.TheVariants as force
use Rattle.tp_model.specs.Disk.{forced}
use Rattle.tp_model.specs.Happenings.{log_shown, logged, world_with_entry}
use Rattle.tp_model.specs.History.{digest}
use Rattle.tp_model.specs.Lines.{is_full}
use Rattle.tp_model.specs.Node.{Move}
use Rattle.tp_model.specs.Outcomes.{is_unchanged}
use Rattle.tp_model.specs.declared.refusal.Refusal.{Refusal}
use Rattle.tp_model.specs.Refusal.{number_in}
use Rattle.tp_model.specs.Parts.{Who, Event, Digest, Entry as EntryValue}
use Rattle.tp_model.specs.World.{World, Node, Site, addr_of, number_of, site_of, find_node, put_node, find_site, put_site, is_node}
use Rattle.tp_site.specs.NodeEvent.{Answer as Said, Refuses, Happens, answer_at}
use Rattle.tp_site.specs.Nodes.{who_at}
use Rattle.tp_site.specs.Site.{IsForced, IsUnforced, known_at, rec_of}
use Rattle.tp_site.specs.State.{tree_in}
use Rattle.tp_world_sites.specs.declared.fault.WorldFault.{WorldFault}
use Rattle.tp_world_sites.specs.NodeAnswers.{Answer}
use Rattle.tp_world_sites.specs.declared.site_slot.Entry.{Entry}
use Rattle.tp_world_sites.specs.declared.site_slot.SiteSlot.{SiteSlot}
use Rattle.tp_world_sites.specs.Summary.{change_of}
use Rattle.tp_world_sites.specs.Sites.{IsSite, IsLogged, AreSites, find_site_slot, place_of_site, known_by, unknown_at}
use Rattle.tp_world_sites.specs.Slots.{standing, SlotPlays, SlotAnswers, HasHappened, IsOver, number_told, entry_told}
use Rattle.tp_world_sites.specs.Standing.{SitesStand, IsEntry, PlaysAt, is_placed, after_entry, number_answered, entry_answered}
use Rattle.tp_world_sites.proofs.SiteNames.{slot_found, slot_there, slot_name}
use Rattle.tp_world_sites.proofs.SiteLists.{IsFound, both_found, are_put, put_self, full_put, site_name}
use Rattle.tp_world_sites.proofs.Logs.{log_forced, log_kept, log_over}
use Rattle.tp_world_sites.proofs.Entries.{IsGained, IsTurnedDown, has_gained, turned_down, step_made}
use Rattle.tp_world_sites.proofs.Known.{find_put, know_put, known_here, known_elsewhere}

-- ---- the site of a node

site_placed : (o : Option Site) (b : Bool) → (elim o as (λ _. Bool) [ None ↦ false | Some s ↦ true ] && b) ≡ true → (s : Site) × (o ≡ Some s)
site_placed None b h = absurd cc
site_placed (Some s) b h = (s, refl)

-- what stands at the node's site, in the definitions and in the code
pub record IsHome (w : World) (n : Node) (xs : List SiteSlot) : Type 0 where
  pub site : Site
  pub slot : SiteSlot
  pub found : find_site w.sites (site_of n) ≡ Some site
  pub there : find_site_slot xs (site_of n) ≡ Some slot
  pub is : IsSite site slot
  pub within : place_of_site xs (site_of n) < length xs
  pub known : known_at slot.site (number_of n) ≡ digest n.origin n.history
  pub who : who_at slot.site.nodes (number_of n) ≡ n.origin.who

same_who : (s : List ℕ) (w : Who) → s ≡ w.site → ◌≡◌ {A = Who} (record { site = s; node = w.node }) w
same_who s w e = rw e refl

pub home : (w : World) (n : Node) (xs : List SiteSlot) → SitesStand w xs → find_node w.nodes (number_of n) ≡ Some n → is_placed w n ≡ true → IsHome w n xs
home w n xs stand found placed =
    let s : (s : Site) × (find_site w.sites (site_of n) ≡ Some s) = site_placed (find_site w.sites (site_of n)) (elim n.superior as (λ _. Bool) [ None ↦ true | Some a ↦ is_node w a.node ]) placed in
    let both : IsFound s.0 (site_of n) xs = both_found w.sites xs (site_of n) s.0 stand.sites s.1 in
    record {
      site = s.0;
      slot = both.slot;
      found = s.1;
      there = both.found;
      is = both.site;
      within = slot_there xs (site_of n) both.slot both.found;
      known = stand.known (site_of n) both.slot both.found (number_of n) ∙ ap (known_by (site_of n) (unknown_at both.slot)) found ∙ known_here (site_of n) (unknown_at both.slot) n (name_self (site_of n));
      who = same_who both.slot.site.nodes.site n.origin.who (slot_name xs (site_of n) both.slot both.found);
    }

-- ---- the world after an entry

abbrev site_after : Site → Option LogRec → Site
site_after s None = s
site_after s (Some r) = record s { disk = forced r s.disk }

after_name : (s : Site) (rec : Option LogRec) → (site_after s rec).name ≡ s.name
after_name s None = refl
after_name s (Some r) = refl

after_sites : (w : World) (n : Node) (e : EntryValue) (s : Site) → find_site w.sites (site_of n) ≡ Some s → (rec : Option LogRec) → (logged (world_with_entry w n e) n rec).sites ≡ put_site w.sites (site_after s rec)
after_sites w n e s found None = sym (put_self w.sites (site_of n) s found)
after_sites w n e s found (Some r) = ap (λ (o : Option Site). elim o as (λ _. List Site) [ None ↦ w.sites | Some x ↦ put_site w.sites (record x { disk = forced r x.disk }) ]) found

after_nodes : (w : World) (n : Node) (e : EntryValue) (rec : Option LogRec) → (logged (world_with_entry w n e) n rec).nodes ≡ put_node w.nodes (record n { history = e ∷ n.history })
after_nodes w n e None = refl
after_nodes w n e (Some r) = refl

log_after : (s : Site) (x y : SiteSlot) (rec : Option LogRec) → IsLogged s x → IsForced standing x.site.keeper rec y.site.keeper → IsLogged (site_after s rec) y
log_after s x y None log same = log_kept s x y log same
log_after s x y (Some r) log stores = log_forced s x y r log stores

after_boot : (s : Site) (rec : Option LogRec) → (site_after s rec).boot ≡ s.boot
after_boot s None = refl
after_boot s (Some r) = refl

-- ---- an event that has happened

module _ (w : World) (n : Node) (e : Event) (xs : List SiteSlot) (stand : SitesStand w xs) (found : find_node w.nodes (number_of n) ≡ Some n) (at : IsHome w n xs) where
  asked : answer_at (who_at at.slot.site.nodes (number_of n)) (known_at at.slot.site (number_of n)) e ≡ answer_at n.origin.who (digest n.origin n.history) e
  asked = ap (λ (p : Who). answer_at p (known_at at.slot.site (number_of n)) e) at.who ∙ ap (λ (d : Digest). answer_at n.origin.who d e) at.known

  gains : (number : Option ℕ) (m : Move) → answer_at (who_at at.slot.site.nodes (number_of n)) (known_at at.slot.site (number_of n)) e ≡ Happens number m → IsGained n.origin n.history e number m
  gains number m is = has_gained n.origin n.history e number m (sym asked ∙ is)

  -- the site after the move
  site_moved : (y : SiteSlot) (refusal : Option Refusal) (x : Entry) (h : HasHappened at.slot (number_of n) e refusal x y) → IsSite (site_after at.site h.move.rec) y
  site_moved y refusal x h = record {
    name = h.played.site.site ∙ at.is.name ∙ sym (after_name at.site h.move.rec);
    boot = h.played.site.boot ∙ at.is.boot ∙ sym (after_boot at.site h.move.rec);
    version = h.played.site.version ∙ at.is.version;
    unshut = h.played.open_after;
    log = log_after at.site at.slot y h.move.rec at.is.log h.played.forced;
  }

  sites_moved : (y : SiteSlot) (refusal : Option Refusal) (x : Entry) (h : HasHappened at.slot (number_of n) e refusal x y) → AreSites (put_site w.sites (site_after at.site h.move.rec)) (slice_set xs (place_of_site xs (site_of n)) y)
  sites_moved y refusal x h =
      let name : (site_after at.site h.move.rec).name ≡ site_of n = after_name at.site h.move.rec ∙ site_name w.sites (site_of n) at.site at.found in
      subst (λ (a : List ℕ). AreSites (put_site w.sites (site_after at.site h.move.rec)) (slice_set xs (place_of_site xs a) y)) name
      (are_put w.sites xs (site_after at.site h.move.rec) y stand.sites (site_moved y refusal x h))

  -- the world after the entry
  stands_behind : (y : SiteSlot) (refusal : Option Refusal) (x : Entry) (h : HasHappened at.slot (number_of n) e refusal x y) (g : IsGained n.origin n.history e (number_in refusal) h.move)
      → SitesStand (logged (world_with_entry w n g.entry) n g.entry.rec) (slice_set xs (place_of_site xs (site_of n)) y)
  stands_behind y refusal x h g =
      let m : Node = record n { history = g.entry ∷ n.history } in
      let sites : (logged (world_with_entry w n g.entry) n g.entry.rec).sites ≡ put_site w.sites (site_after at.site h.move.rec) =
      after_sites w n g.entry at.site at.found g.entry.rec ∙ ap (λ (r : Option LogRec). put_site w.sites (site_after at.site r)) g.rec in
      record {
        sites = subst (λ (ss : List Site). AreSites ss (slice_set xs (place_of_site xs (site_of n)) y)) (sym sites) (sites_moved y refusal x h);
        known = know_put w.nodes (logged (world_with_entry w n g.entry) n g.entry.rec).nodes m
            (λ k. ap (λ (ns : List Node). find_node ns k) (after_nodes w n g.entry g.entry.rec) ∙ find_put w.nodes m n k found)
            xs at.slot y stand.known at.there at.within h.played.site
            (λ s u other. ap (known_by s u) found ∙ known_elsewhere s u n other)
            (λ k. h.played.known k ∙ ap (λ (d : Digest). cond (number_of n == k) d (known_at at.slot.site k)) (sym g.next));
      }

  same_step : (y : SiteSlot) (refusal : Option Refusal) (x : Entry) (h : HasHappened at.slot (number_of n) e refusal x y) (g : IsGained n.origin n.history e (number_in refusal) h.move)
      → x.change ≡ change_of (digest n.origin n.history) g.entry (digest n.origin (g.entry ∷ n.history))
  same_step y refusal x h g =
      let self : (number_of n == number_of n) ≡ true = grind (arith, nat_tests) in
      let behind : known_at y.site (number_of n) ≡ digest n.origin (g.entry ∷ n.history) =
      h.played.known (number_of n) ∙ ap (λ (b : Bool). cond b h.move.next (known_at at.slot.site (number_of n))) self ∙ sym g.next in
      h.change
      ∙ step_made (tree_in (known_at at.slot.site (number_of n))) (tree_in (digest n.origin n.history)) (tree_in (known_at y.site (number_of n))) (tree_in (digest n.origin (g.entry ∷ n.history))) (is_unchanged e) (is_unchanged g.entry.event)
      (option_map log_shown h.move.rec) (option_map log_shown g.entry.rec) (ap tree_in at.known) (ap tree_in behind) (sym g.leaves) (ap (option_map log_shown) (sym g.rec))

  -- what it answers, and the entry
  happened : (y : SiteSlot) (refusal : Option Refusal) (x : Entry) → HasHappened at.slot (number_of n) e refusal x y
      → (number_in refusal ≡ number_answered n e) × IsEntry n (entry_answered n e) (Some x) × SitesStand (after_entry w n (entry_answered n e)) (slice_set xs (place_of_site xs (site_of n)) y)
  happened y refusal x h =
      let g : IsGained n.origin n.history e (number_in refusal) h.move = gains (number_in refusal) h.move h.played.answer in (
        sym g.number_is,
        subst (λ (o : Option EntryValue). IsEntry n o (Some x)) (sym g.entry_is) (h.played.outs ∙ sym g.outs, same_step y refusal x h g),
        subst (λ (o : Option EntryValue). SitesStand (after_entry w n o) (slice_set xs (place_of_site xs (site_of n)) y)) (sym g.entry_is) (stands_behind y refusal x h g),
      )

  -- it is refused
  refused : (k : ℕ) → answer_at (who_at at.slot.site.nodes (number_of n)) (known_at at.slot.site (number_of n)) e ≡ Refuses k
      → (Some k ≡ number_answered n e) × IsEntry n (entry_answered n e) None × SitesStand (after_entry w n (entry_answered n e)) xs
  refused k is =
      let t : IsTurnedDown n.origin n.history e k = turned_down n.origin n.history e k (sym asked ∙ is) in (
        sym t.number_is,
        subst (λ (o : Option EntryValue). IsEntry n o None) (sym t.entry_is) tt,
        subst (λ (o : Option EntryValue). SitesStand (after_entry w n o) xs) (sym t.entry_is) stand,
      )

  -- the log has no room
  over : (y : SiteSlot) → IsOver at.slot (number_of n) e y → is_full (after_entry w n (entry_answered n e)).sites ≡ true
  over y (size, full) = go (answer_at (who_at at.slot.site.nodes (number_of n)) (known_at at.slot.site (number_of n)) e) refl full
    where
      by_rec : (number : Option ℕ) (m : Move) (g : IsGained n.origin n.history e number m) (rec : Option LogRec) → m.rec ≡ rec → IsUnforced standing at.slot.site.keeper rec (force.Full size) y.site.keeper
          → is_full (after_entry w n (entry_answered n e)).sites ≡ true
      by_rec number m g None is none = absurd none
      by_rec number m g (Some r) is none =
          let sites : (after_entry w n (entry_answered n e)).sites ≡ put_site w.sites (site_after at.site (Some r)) =
          ap (λ (o : Option EntryValue). (after_entry w n o).sites) g.entry_is ∙ after_sites w n g.entry at.site at.found g.entry.rec ∙ ap (λ (o : Option LogRec). put_site w.sites (site_after at.site o)) (g.rec ∙ is) in
          ap is_full sites
          ∙ full_put w.sites (site_of n) at.site (site_after at.site (Some r)) at.found (site_name w.sites (site_of n) at.site at.found) (log_over at.site at.slot y.site.keeper r size at.is.log none)

      go : (a : Said) → answer_at (who_at at.slot.site.nodes (number_of n)) (known_at at.slot.site (number_of n)) e ≡ a → IsUnforced standing at.slot.site.keeper (rec_of a) (force.Full size) y.site.keeper
          → is_full (after_entry w n (entry_answered n e)).sites ≡ true
      go (Refuses k) is none = absurd none
      go (Happens number m) is none = by_rec number m (gains number m is) m.rec refl none

  -- the sites where nothing has changed
  unmoved : (x : SiteSlot) → slice_index_or xs (place_of_site xs (site_of n)) x ≡ x → slice_set xs (place_of_site xs (site_of n)) x ≡ xs
  unmoved x is = ap (slice_set xs (place_of_site xs (site_of n))) (sym is) ∙ set-get_or xs (place_of_site xs (site_of n)) x

  answers : (y : SiteSlot) (a : Answer) → slice_index_or xs (place_of_site xs (site_of n)) at.slot ≡ at.slot → SlotAnswers at.slot (number_of n) e a y
      → (number_told a ≡ number_answered n e) × IsEntry n (entry_answered n e) (entry_told a) × SitesStand (after_entry w n (entry_answered n e)) (slice_set xs (place_of_site xs (site_of n)) y)
  answers y (Answer.Happened refusal x) is h = happened y refusal x h
  answers y (Answer.Refused k) is h =
      let r = refused k h.0 in
      let same : slice_set xs (place_of_site xs (site_of n)) y ≡ xs = ap (slice_set xs (place_of_site xs (site_of n))) h.1 ∙ unmoved at.slot is in
      (r.0, r.1, subst (SitesStand (after_entry w n (entry_answered n e))) (sym same) r.2)

  plays : (y : SiteSlot) (r : Result Answer WorldFault) → slice_index_or xs (place_of_site xs (site_of n)) at.slot ≡ at.slot → SlotPlays at.slot (number_of n) e r y
      → PlaysAt w n e r (slice_set xs (place_of_site xs (site_of n)) y)
  plays y (Ok a) is h = answers y a is h
  plays y (Err WorldFault.Name) is h = absurd h
  plays y (Err (WorldFault.Limit what)) is h = (h.0, over y h.1)
  plays y (Err WorldFault.NoMemory) is h = tt

-- the slot at the place has played the event
pub plays_at : (w : World) (n : Node) (e : Event) (xs : List SiteSlot) (x y : SiteSlot) (r : Result Answer WorldFault) → SitesStand w xs → find_node w.nodes (number_of n) ≡ Some n → is_placed w n ≡ true
    → slice_index_or xs (place_of_site xs (site_of n)) x ≡ x → SlotPlays x (number_of n) e r y → PlaysAt w n e r (slice_set xs (place_of_site xs (site_of n)) y)
plays_at w n e xs x y r stand found placed is h =
    let at : IsHome w n xs = home w n xs stand found placed in
    let self : Some at.slot ≡ Some x = sym at.there ∙ slot_found xs (site_of n) x at.within ∙ ap Some is in
    let same : at.slot ≡ x = cc (self) in
    plays w n e xs stand found at y r
    (subst (λ (z : SiteSlot). slice_index_or xs (place_of_site xs (site_of n)) z ≡ z) (sym same) is)
    (subst (λ (z : SiteSlot). SlotPlays z (number_of n) e r y) (sym same) h)

-- so at the place that was sought for its address
pub plays_sought : (w : World) (n : Node) (e : Event) (at : Addr) (k : ℕ) (xs : List SiteSlot) (x y : SiteSlot) (r : Result Answer WorldFault) → SitesStand w xs → find_node w.nodes (number_of n) ≡ Some n → is_placed w n ≡ true → at ≡ addr_of n
    → k ≡ place_of_site xs at.site → x ≡ slice_index_or xs k x → SlotPlays (slice_index_or xs k x) at.node e r y → PlaysAt w n e r (slice_set xs k y)
plays_sought w n e at k xs x y r stand found placed named sought is h =
    let place : k ≡ place_of_site xs (site_of n) = sought ∙ ap (λ (a : Addr). place_of_site xs a.site) named in
    let there : slice_index_or xs (place_of_site xs (site_of n)) x ≡ x = ap (λ (i : ℕ). slice_index_or xs i x) (sym place) ∙ sym is in
    let here : SlotPlays x at.node e r y = subst (λ (z : SiteSlot). SlotPlays z at.node e r y) (sym is) h in
    subst (λ (i : ℕ). PlaysAt w n e r (slice_set xs i y)) (sym place) (plays_at w n e xs x y r stand found placed there (subst (λ (a : Addr). SlotPlays x a.node e r y) named here))

-- the site of a node of the world is among them
pub never_missing : (w : World) (n : Node) (xs : List SiteSlot) → SitesStand w xs → find_node w.nodes (number_of n) ≡ Some n → is_placed w n ≡ true → length xs ≤ place_of_site xs (site_of n) → ⊥
never_missing w n xs stand found placed past = let at : IsHome w n xs = home w n xs stand found placed in let within = at.within in absurd (omega (arith, within, past))

-- and knows it
pub known_home : (w : World) (n : Node) (xs : List SiteSlot) (x : SiteSlot) → SitesStand w xs → find_node w.nodes (number_of n) ≡ Some n → is_placed w n ≡ true → slice_index_or xs (place_of_site xs (site_of n)) x ≡ x
    → known_at x.site (number_of n) ≡ digest n.origin n.history
known_home w n xs x stand found placed is =
    let at : IsHome w n xs = home w n xs stand found placed in
    let self : Some at.slot ≡ Some x = sym at.there ∙ slot_found xs (site_of n) x at.within ∙ ap Some is in
    let same : at.slot ≡ x = cc (self) in
    subst (λ (z : SiteSlot). known_at z.site (number_of n) ≡ digest n.origin n.history) same at.known
