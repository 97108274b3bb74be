-- A site that has started again on its disk, beside the site of the definitions that starts again on its log.
use Rattle.std.proofs.Common.{◌≡◌, ◌≤◌, ◌<◌, ◌+◌, ◌++◌, ℕ, suc, Bool, true, false, refl, ap, sym, ◌∙◌, subst, arith, nat_lt, Option, Some, None, List, [], ◌∷◌, length}
use Rattle.std.proofs.lemmas.Bool.Decides.{nat_tests}
use Rattle.std.specs.Option.{option_map}
use Rattle.std.proofs.lemmas.List.{length-reverse}
use Rattle.tp_names.specs.Same.{is_name}
use Rattle.tp_names.proofs.Sames.{both}
use Rattle.tp_logrec.specs.declared.record.LogRec.{LogRec}
use Rattle.tp_logrec.specs.declared.record.LogVersion.{LogVersion}
use Rattle.tp_logrec.specs.Order.{boots, last_number, all_follow}
use Rattle.tp_outside.specs.declared.mem_disk.MemDisk.{MemDisk}
use Rattle.tp_journal.specs.declared.faults.ForceFault.TheVariants as force
use Rattle.tp_journal.specs.Journals.{Kept}
use Rattle.tp_journal.specs.Records.{first_place, version_of}
use Rattle.tp_model.specs.Disk.{records_before}
use Rattle.tp_framing.specs.Frames.{frame_bytes}
use Rattle.tp_model.specs.Events.{started}
use Rattle.tp_model.specs.Happenings.{booted}
use Rattle.tp_model.specs.History.{digest}
use Rattle.tp_model.specs.Lines.{log_size, most_bytes}
use Rattle.tp_model.specs.Links.{greatest}
use Rattle.tp_model.specs.NodeRun.{Opening, boot_of, origin_at}
use Rattle.tp_model.specs.World.{World, Node, Site, number_of, site_of, find_node}
use Rattle.tp_laws.specs.SiteLogs.{log_of, only_branches_vote, forced_by, next_opening, StartsNext, TellsItsNodes}
use Rattle.tp_site.specs.Site.{IsForced, IsUnforced, IsStarted, IsUnstarted, told_records, opening_of, known_at}
use Rattle.tp_world_sites.specs.declared.site_slot.SiteSlot.{SiteSlot}
use Rattle.tp_world_sites.specs.Restarts.{IsReopened, IsStartable, stopped, turned_at, restarted_to}
use Rattle.tp_world_sites.specs.Sites.{IsSite, IsLogged, known_by, unknown_at}
use Rattle.tp_world_sites.specs.Slots.{standing}
use Rattle.tp_world_sites.proofs.Found.{find_is}
use Rattle.tp_world_sites.proofs.Known.{known_here, known_elsewhere}
use Rattle.tp_world_sites.proofs.Logs.{recs_of, log_forced, log_over}
use Rattle.tp_world_sites.proofs.Turned.{find_turned, turned_here, turned_there}

-- ---- records that a site may start on

records_fit : (rs : List LogRec) → length rs ≤ log_size rs
records_fit [] = omega arith
records_fit (r ∷ rs) = let rest = records_fit rs in omega (arith, rest)

pub startable : (w : World) (z : Site) (x : SiteSlot) → IsSite z x → StartsNext w z → IsStartable x.site.keeper.list
startable w z x is next =
    let order : all_follow (log_of z) ≡ true = (both (all_follow (log_of z)) (only_branches_vote (log_of z)) next.order).0 in
    let boot : suc (last_number (boots (log_of z))) ≡ suc z.boot = next.boot in
    let most : z.boot ≤ length (log_of z) = next.most in
    let same : length (log_of z) ≡ length z.disk.records = length-reverse z.disk.records in
    let fit : length z.disk.records ≤ log_size z.disk.records = records_fit z.disk.records in
    let room : log_size z.disk.records ≤ most_bytes = let in_range = is.log.room in grind (arith, nat_tests, in_range) in
    let small : last_number (boots (log_of z)) < greatest = omega (arith, boot, most, same, fit, room) in
    record {
      order = ap all_follow is.log.list ∙ order;
      boot = subst (λ (l : List LogRec). last_number (boots l) < greatest) (sym is.log.list) small;
    }

-- ---- the log it starts on

abbrev pub slot_on : SiteSlot → Kept MemDisk → SiteSlot
slot_on x j = record x { site = record (x.site) { keeper = j } }

pub log_on : (z : Site) (x : SiteSlot) (j : Kept MemDisk) → IsSite z x → IsReopened x.site.keeper j → IsLogged z (slot_on x j)
log_on z x j is again = record {
  list = again.list ∙ is.log.list;
  wide = again.wide ∙ is.log.wide;
  gate = ap (λ (n : ℕ). n + 1) again.gate ∙ is.log.gate;
  unshut = again.unshut;
  room = is.log.room;
  closed = is.log.closed;
  bytes = again.bytes (1 ∷ frame_bytes (7 ∷ 2 ∷ []) ++ records_before z.disk.records (z.disk.gate ∷ z.disk.behind)) is.log.bytes;
}

opening_made : (a b : List ℕ) (v u : LogVersion) (rs qs : List LogRec) → a ≡ b → v ≡ u → rs ≡ qs → ◌≡◌ {A = Opening} (record { site = a; version = v; records = rs }) (record { site = b; version = u; records = qs })
opening_made a b v u rs qs e f g = rw (e, f, g) refl

opening_is : (z : Site) (x : SiteSlot) → IsSite z x → opening_of (standing x.site.keeper) x.site.nodes.site ≡ next_opening z
opening_is z x is =
    let j : Kept MemDisk = x.site.keeper in
    opening_made x.site.nodes.site z.name (version_of j.wide) LogVersion.Two (told_records (standing j)) (log_of z) is.name (ap version_of is.log.wide)
    (recs_of (first_place j.wide) j.wide j.list ∙ is.log.list)

-- a boot that has no room would make the log of the definitions full
pub boot_over : (w : World) (z : Site) (x : SiteSlot) (size : ℕ) (left : Kept MemDisk) → IsSite z x → StartsNext w z → IsUnstarted standing x.site.keeper x.site.nodes.site (force.Full size) left
    → nat_lt most_bytes (log_size (LogRec.Boot (suc z.boot) ∷ z.disk.records)) ≡ true
boot_over w z x size left is next h =
    let boot : boot_of (opening_of (standing x.site.keeper) x.site.nodes.site) ≡ suc z.boot = ap boot_of (opening_is z x is) ∙ next.boot in
    log_over z x left (LogRec.Boot (suc z.boot)) size is.log
    (subst (λ (n : ℕ). IsUnforced standing x.site.keeper (Some (LogRec.Boot n)) (force.Full size) left) boot h.unforced)

-- ---- the site

module _ (w : World) (z : Site) (x y : SiteSlot) (is : IsSite z x) (next : StartsNext w z) (h : IsStarted standing x.site.keeper x.site.nodes.site y.site) where
  boot_next : y.site.nodes.boot ≡ suc z.boot
  boot_next = h.boot ∙ ap boot_of (opening_is z x is) ∙ next.boot

  stored : IsForced standing x.site.keeper (Some (LogRec.Boot (suc z.boot))) y.site.keeper
  stored = subst (λ (n : ℕ). IsForced standing x.site.keeper (Some (LogRec.Boot n)) y.site.keeper) boot_next h.forced

  log_next : IsLogged (booted z) y
  log_next = let l = log_forced z x y (LogRec.Boot (suc z.boot)) is.log stored in record { list = l.list; wide = l.wide; gate = l.gate; unshut = l.unshut; room = l.room; closed = l.closed; bytes = l.bytes }

  pub site_next : IsSite (booted z) y
  site_next = record {
    name = h.site ∙ is.name;
    boot = boot_next;
    version = h.version ∙ ap version_of is.log.wide;
    unshut = h.shut;
    log = log_next;
  }

  -- what is known of a node: what a start finds on its records
  known_next : (k : ℕ) → known_at y.site k ≡ digest (origin_at (next_opening z) k) []
  known_next k = h.known k ∙ ap (λ (o : Opening). started (origin_at o k).start) (opening_is z x is)

  unknown_next : unknown_at y ≡ started (record { boot = suc z.boot; version = LogVersion.Two; records = [] })
  unknown_next = go y.site.nodes.boot (suc z.boot) y.site.nodes.version LogVersion.Two site_next.boot site_next.version
    where
      go : (a b : ℕ) (v u : LogVersion) → a ≡ b → v ≡ u → started (record { boot = a; version = v; records = [] }) ≡ started (record { boot = b; version = u; records = [] })
      go a b v u e f = rw (e, f) refl

  -- it knows its nodes as the stop left them
  module _ (tells : TellsItsNodes w z) (s : List ℕ) (name : z.name ≡ s) where
    unlogged : (k : ℕ) → forced_by z.name (find_node w.nodes k) ≡ [] → known_at y.site k ≡ unknown_at y
    unlogged k none = known_next k ∙ next.others k (tells.nodes k ∙ none) ∙ sym unknown_next

    by_node : (k : ℕ) (o : Option Node) → find_node w.nodes k ≡ o → known_at y.site k ≡ known_by s (unknown_at y) (elim o as (λ _. Option Node) [ None ↦ None | Some n ↦ Some (turned_at stopped s n) ])
    by_node k None e = unlogged k (ap (forced_by z.name) e)
    by_node k (Some n) e = go (is_name (site_of n) s) refl
      where
        elsewhere : is_name (site_of n) s ≡ false → forced_by z.name (Some n) ≡ []
        elsewhere there = let other : is_name (site_of n) z.name ≡ false = ap (is_name (site_of n)) name ∙ there in grind (arith, other)

        go : (b : Bool) → is_name (site_of n) s ≡ b → known_at y.site k ≡ known_by s (unknown_at y) (Some (turned_at stopped s n))
        go true here =
            let number : number_of n ≡ k = find_is w.nodes k n e in
            let found : find_node w.nodes (number_of n) ≡ Some n = ap (find_node w.nodes) number ∙ e in
            let at : is_name (site_of n) z.name ≡ true = ap (is_name (site_of n)) name ∙ here in
            known_next k ∙ ap (λ (m : ℕ). digest (origin_at (next_opening z) m) []) (sym number) ∙ next.nodes n found at ∙ sym (known_here s (unknown_at y) (stopped n) here)
            ∙ ap (λ (m : Node). known_by s (unknown_at y) (Some m)) (sym (turned_here stopped s n here))
        go false there =
            unlogged k (ap (forced_by z.name) e ∙ elsewhere there) ∙ sym (known_elsewhere s (unknown_at y) n there) ∙ ap (λ (m : Node). known_by s (unknown_at y) (Some m)) (sym (turned_there stopped s n there))

    pub knows_stopped : (k : ℕ) → known_at y.site k ≡ known_by s (unknown_at y) (find_node (restarted_to stopped s 0 w.nodes) k)
    knows_stopped k = by_node k (find_node w.nodes k) refl ∙ ap (known_by s (unknown_at y)) (sym (find_turned stopped (λ n. refl) s w.nodes k ∙ go (find_node w.nodes k)))
      where
        go : (o : Option Node) → option_map (turned_at stopped s) o ≡ elim o as (λ _. Option Node) [ None ↦ None | Some n ↦ Some (turned_at stopped s n) ]
        go None = refl
        go (Some n) = refl
