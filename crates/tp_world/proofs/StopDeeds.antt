-- A site that stops in an event of one of its nodes, from the answer of the site to the whole line.
use Rattle.std.proofs.Common.{◌≡◌, ◌<◌, ◌+◌, ◌==◌, ◌&&◌, ◌++◌, not, ℕ, zero, suc, Bool, true, false, cond, refl, ap, sym, ◌∙◌, subst, arith, Option, Some, None, Result, Ok, Err, List, [], ◌∷◌, length, slice_set, slice_index_or}
use Rattle.std.specs.Option.{option_map}
use Rattle.std.proofs.lemmas.Bool.Decides.{nat_tests}
use Rattle.std.proofs.lemmas.List.{get_or-set_same, set-set, set-get_or}
use Rattle.tp_names.specs.declared.identifiers.Aaid.{Aaid}
use Rattle.tp_names.specs.declared.identifiers.Addr.{Addr}
use Rattle.tp_names.specs.Same.{is_name}
use Rattle.tp_names.proofs.Sames.{name_same, both}
use Rattle.tp_outside.specs.declared.mem_disk.MemDisk.{MemDisk}
use Rattle.tp_outside.specs.MemDisk.{recorded, fresh}
use Rattle.tp_outside.specs.Story.{seen}
use Rattle.tp_model.specs.declared.line.Action.{Action}
use Rattle.tp_model.specs.declared.out_line.OutLine.{OutLine}
use Rattle.tp_model.specs.declared.out_line.RecordFate.{RecordFate}
use Rattle.tp_model.specs.declared.verdict.What.{What}
use Rattle.tp_model.specs.Disk.{disk_bytes}
use Rattle.tp_model.specs.Happenings.{Task, Mark, Crash_in, happens, still, after_lines, action_lines, after_stop, stop_in_entry, stop_in_task, task_at, task_of, task_here, WorldTurn}
use Rattle.tp_model.specs.Legal.{IsUnder}
use Rattle.tp_model.specs.Lines.{Fault, Over, is_named, crash_in_line, stands_at, has_room, has_room_for, record_of, resolved, marked, marked_by, within_limits, node_of_action}
use Rattle.tp_model.specs.Parts.{Event, Entry as EntryValue}
use Rattle.tp_model.specs.World.{World, Node, Site, Frame, addr_of, is_site, number_of, site_of, find_node, find_site, find_frame, mark_handed, oldest_from, oldest_between}
use Rattle.tp_laws.specs.SiteLogs.{DisksTell, DisksStart}
use Rattle.tp_laws.proofs.EveryLog.{disks_tell}
use Rattle.tp_laws.proofs.LineRuns.{of_run}
use Rattle.tp_laws.proofs.NextStart.{disks_start}
use Rattle.tp_site.specs.Site.{known_at}
use Rattle.tp_world_sites.specs.Sites.{known_by, unknown_at, place_of_site}
use Rattle.tp_world_sites.specs.Slots.{SlotPlays, SlotAnswers, entry_told}
use Rattle.tp_world.specs.Stops.{StopsIn, HasPlayed, forced_by, stop_by, stop_judged, stop_deed, stop_named}
use Rattle.tp_world_sites.specs.Standing.{SitesStand, RestStands, PlaysAt, after_entry, entry_answered}
use Rattle.tp_world.specs.World.{Mirrors, Gives}
use Rattle.tp_world_sites.specs.declared.fault.WorldFault.{WorldFault}
use Rattle.tp_world_sites.specs.NodeAnswers.{Answer}
use Rattle.tp_world_sites.specs.declared.site_slot.SiteSlot.{SiteSlot}
use Rattle.tp_world.specs.declared.world.World.{World as CodeWorld}
use Rattle.tp_world.proofs.Crashing.{IsThere, place_there}
use Rattle.tp_world_sites.proofs.Entered.{legal_found}
use Rattle.tp_world_sites.proofs.Found.{find_is, find_self, placed_found}
use Rattle.tp_world_sites.proofs.Grown.{answered_legal}
use Rattle.tp_world.proofs.Halted.{place_put}
use Rattle.tp_world_sites.proofs.Known.{known_here}
use Rattle.tp_world.proofs.Limits.{not_full}
use Rattle.tp_world_sites.proofs.Placed.{plays_at}
use Rattle.tp_world.proofs.Resolved.{gives_named}
use Rattle.tp_world_sites.proofs.SiteLists.{site_name}
use Rattle.tp_network.specs.Nodes.{address_at}
use Rattle.tp_world.proofs.Stood.{address_stood}
use Rattle.tp_world.proofs.StopTells.{happens_on, event_tells, event_starts}
use Rattle.tp_world.proofs.StopTurns.{deed_gives, judged_room, judged_full}

-- ---- the answer of the site

-- its name is the same, and of every other node it knows what it knew
pub slot_kept : (x y : SiteSlot) (n : ℕ) (e : Event) (a : Answer) → SlotAnswers x n e a y
    → (y.site.nodes.site ≡ x.site.nodes.site) × ((k : ℕ) → ((n == k) ≡ false) → known_at y.site k ≡ known_at x.site k)
slot_kept x y n e (Answer.Refused m) h = (ap (λ (q : SiteSlot). q.site.nodes.site) h.1, λ k other. ap (λ (q : SiteSlot). known_at q.site k) h.1)
slot_kept x y n e (Answer.Happened refusal entry) h = (h.played.site.site, λ k other. h.played.known k ∙ ap (λ (b : Bool). cond b h.move.next (known_at x.site k)) other)

-- the node of that number at the site
pub record IsNodeAt (w : World) (s : List ℕ) (k : ℕ) : Type 0 where
  pub node : Node
  pub at : find_node w.nodes k ≡ Some node
  pub found : find_node w.nodes (number_of node) ≡ Some node
  pub number : number_of node ≡ k
  pub here : is_name (site_of node) s ≡ true

pub node_at : (w : World) (s : List ℕ) (k : ℕ) → stands_at w s (Some k) ≡ true → IsNodeAt w s k
node_at w s k h = go (find_node w.nodes k) refl h
  where
    go : (o : Option Node) → find_node w.nodes k ≡ o → elim o as (λ _. Bool) [ None ↦ false | Some x ↦ is_name (site_of x) s ] ≡ true → IsNodeAt w s k
    go None f i = absurd (cc (i))
    go (Some n) f i = record { node = n; at = f; found = find_self w.nodes k n f; number = find_is w.nodes k n f; here = i }

module _ (w : World) (s : List ℕ) (z : Site) (place : ℕ) (v : CodeWorld) (stops : StopsIn w s z place v) (within : place < length v.sites.items) (x y : SiteSlot) (is : slice_index_or v.sites.items place x ≡ x) (n : Node) (found : find_node w.nodes (number_of n) ≡ Some n) (here : is_name (site_of n) s ≡ true) (e : Event) where
  abbrev xs : List SiteSlot
  xs = v.sites.items

  stand : SitesStand w xs
  stand = stops.mirrors.sites

  pub at : IsThere w s xs x
  at = place_there w s xs x place stand stops.at within is

  site_is : at.site ≡ z
  site_is = let same : Some at.site ≡ Some z = sym at.found ∙ stops.site in cc (same)

  pub z_name : z.name ≡ s
  z_name = site_name w.sites s z stops.site

  home_place : place ≡ place_of_site xs (site_of n)
  home_place = stops.at ∙ ap (place_of_site xs) (sym (name_same (site_of n) s here))

  -- the disk that is copied before it
  pub disk_before : (disk : MemDisk) → recorded disk ≡ fresh (seen (recorded x.site.keeper.disk).story) [] → recorded disk ≡ fresh (disk_bytes z.disk) []
  disk_before disk copied = copied ∙ ap (λ (b : List ℕ). fresh b []) (at.is.log.bytes.1 ∙ ap (λ (q : Site). disk_bytes q.disk) site_is)

  plays : (r : Result Answer WorldFault) → SlotPlays x (number_of n) e r y → PlaysAt w n e r (slice_set xs place y)
  plays r h =
      subst (λ (k : ℕ). PlaysAt w n e r (slice_set xs k y)) (sym home_place)
      (plays_at w n e xs x y r stand found (placed_found w w.nodes (number_of n) n found stops.mirrors.rest.placed) (ap (λ (k : ℕ). slice_index_or xs k x) (sym home_place) ∙ is) h)

  -- it has answered
  pub has_played : (a : Answer) (d : Action) (mid : CodeWorld) → SlotPlays x (number_of n) e (Ok a) y → task_of w d ≡ Some (record { node = n; event = e }) → ((up : Option Addr) → IsUnder up e)
      → mid.sites.items ≡ slice_set xs place y → mid.nodes ≡ v.nodes → mid.frames ≡ v.frames → mid.trees.items ≡ v.trees.items → HasPlayed w s z n (entry_answered n e) x place (entry_told a) mid
  has_played a d mid h task under sites nodes frames trees =
      let kept = slot_kept x y (number_of n) e a h in
      let p = plays (Ok a) h in
      let slot : slice_index_or mid.sites.items place x ≡ y = ap (λ (l : List SiteSlot). slice_index_or l place x) sites ∙ get_or-set_same xs place y x within in
      let y_name : y.site.nodes.site ≡ s = kept.0 ∙ at.is.name ∙ ap (λ (q : Site). q.name) site_is ∙ z_name in
      let stood : place ≡ place_of_site mid.sites.items s =
      stops.at ∙ sym (place_put xs s y (subst (λ (k : ℕ). k < length xs) stops.at within) y_name) ∙ ap (λ (k : ℕ). place_of_site (slice_set xs k y) s) (sym stops.at) ∙ ap (λ (l : List SiteSlot). place_of_site l s) (sym sites)
      in
      let before : xs ≡ slice_set mid.sites.items place x = sym (ap (slice_set xs place) (sym is) ∙ set-get_or xs place x) ∙ sym (set-set xs place y x) ∙ ap (λ (l : List SiteSlot). slice_set l place x) (sym sites) in
      let r = stops.mirrors.rest in
      record {
        found = found;
        here = here;
        legal = λ (ent : EntryValue) gained. answered_legal n.origin n.superior n.history e ent (under n.superior) (legal_found w.nodes v.nodes (number_of n) n r.nodes found) gained;
        site = stops.site;
        at = stood;
        before = subst (SitesStand w) before stand;
        same_name = ap (λ (q : SiteSlot). q.site.nodes.site) slot ∙ kept.0;
        sites = subst (SitesStand (after_entry w n (entry_answered n e))) (sym sites) p.2;
        rest = subst (λ l. RestStands w l mid.frames mid.trees.items) (sym nodes) (subst (λ (l : List Frame). RestStands w v.nodes l mid.trees.items) (sym frames) (subst (λ (l : List Aaid). RestStands w v.nodes v.frames l) (sym trees) r));
        entry = p.1;
        known = λ k other. ap (λ (q : SiteSlot). known_at q.site k) slot ∙ kept.1 k other;
        node_knew = stand.known s x at.there (number_of n) ∙ ap (known_by s (unknown_at x)) found ∙ known_here s (unknown_at x) n here;
        tells = of_run DisksTell disks_tell w stops.run;
        starts = of_run DisksStart disks_start w stops.run;
        tells_after = event_tells w d n e stops.run task;
        starts_after = event_starts w d n e stops.run task;
      }

  abbrev task : Task
  task = record { node = n; event = e }

  -- the log has no room, or memory was wanting
  pub play_fails : (call fill : ℕ) (f : WorldFault) (before after : List OutLine) (new : CodeWorld) → SlotPlays x (number_of n) e (Err f) y → Gives (stop_judged w s z call fill task) before (Err f) after new
  play_fails call fill f before after new h = go f (plays (Err f) h)
    where
      go : (g : WorldFault) → PlaysAt w n e (Err g) (slice_set xs place y) → Gives (stop_judged w s z call fill (record { node = n; event = e })) before (Err g) after new
      go WorldFault.Name i = absurd i
      go (WorldFault.Limit what) i =
          subst (λ (q : What). Gives (stop_judged w s z call fill (record { node = n; event = e })) before (Err (WorldFault.Limit q)) after new) (sym i.0)
          (judged_full w s z n e stops.site here call fill before after new (not_full w.sites xs stand.sites) i.1)
      go WorldFault.NoMemory i = tt

  pub play_stops : (a : Answer) (call fill : ℕ) (r : Result (Unit {0}) WorldFault) (before after : List OutLine) (new : CodeWorld) → SlotPlays x (number_of n) e (Ok a) y
      → Gives (within_limits (stop_in_entry w n z call fill (entry_answered n e))) before r after new → Gives (stop_judged w s z call fill task) before r after new
  play_stops a call fill r before after new h stops_here =
      let p = plays (Ok a) h in
      judged_room w s z n e stops.site here call fill r before after new (not_full (after_entry w n (entry_answered n e)).sites (slice_set xs place y) p.2.sites) stops_here

  z_here : is_name (site_of n) z.name ≡ true
  z_here = ap (is_name (site_of n)) z_name ∙ here

  -- and these lines were shown first
  pub deed : (call fill : ℕ) (ls : List OutLine) (r : Result (Unit {0}) WorldFault) (before first after : List OutLine) (new : CodeWorld) → first ≡ before ++ ls → Gives (stop_judged w s z call fill task) first r after new
      → Gives (stop_deed w s z call fill ls (Some task)) before r after new
  deed call fill ls r before first after new start h = deed_gives w s z call fill ls task r before first after new z_here start h

-- ---- a line with an event that is no pass

abbrev turn_here : World → List ℕ → ℕ → ℕ → Action → Option Site → WorldTurn
turn_here w s call fill d o = elim o [
  | None ↦ still w
  | Some x ↦ elim (task_here x (task_of w d)) [ None ↦ still w | Some t ↦ after_lines (action_lines d) (stop_in_task w x call fill t) ]
]

abbrev judged_by : World → List ℕ → ℕ → ℕ → Action → World → Option Action → Result WorldTurn Fault
judged_by w s call fill l m o = elim (has_room_for w s o) [
  | false ↦ Err (Over What.Log)
  | true ↦ within_limits (elim o as (λ _. WorldTurn) [ None ↦ after_lines (OutLine.Nothing ∷ []) (after_stop w s RecordFate.None) | Some d ↦ happens m (Crash_in s call fill d) ])
]

pub named_is : (w : World) (s : List ℕ) (z : Site) (call fill : ℕ) (l : Action) → find_site w.sites s ≡ Some z → resolved w l ≡ Some l → marked_by w l ≡ w → stop_named w s call fill l ≡ stop_deed w s z call fill (action_lines l) (task_of w l)
named_is w s z call fill l found is same =
    ap (judged_by w s call fill l (marked_by w l)) is
    ∙ ap (λ (m : World). judged_by w s call fill l m (Some l)) same
    ∙ ap (λ (o : Option Site). elim (has_room w s (record_of w l)) as (λ _. Result WorldTurn Fault) [ false ↦ Err (Over What.Log) | true ↦ within_limits (turn_here w s call fill l o) ]) found

pub named_gives : (w : World) (s : List ℕ) (z : Site) (call fill : ℕ) (l : Action) (r : Result (Unit {0}) WorldFault) (before after : List OutLine) (v : CodeWorld) → find_site w.sites s ≡ Some z → resolved w l ≡ Some l → marked_by w l ≡ w
    → Gives (stop_deed w s z call fill (action_lines l) (task_of w l)) before r after v → Gives (stop_named w s call fill l) before r after v
named_gives w s z call fill l r before after v found is same h = subst (λ (q : Result WorldTurn Fault). Gives q before r after v) (sym (named_is w s z call fill l found is same)) h

-- ---- a pass

-- the oldest frame is there, and passes the test
pub oldest_found : (k : ℕ) (test : Frame → Bool) (fs : List Frame) (n : ℕ) → oldest_from k test fs ≡ Some n → (i : ℕ) × (n ≡ k + suc i) × (f : Frame) × (find_frame fs (suc i) ≡ Some f) × (test f ≡ true)
oldest_found k test [] n h = absurd (cc (h))
oldest_found k test (f ∷ fs) n h = go (not f.handed && test f) refl (λ e. oldest_found (suc k) test fs n e) h
  where
    go : (b : Bool) → (not f.handed && test f) ≡ b → (oldest_from (suc k) test fs ≡ Some n → (i : ℕ) × (n ≡ suc k + suc i) × (g : Frame) × (find_frame fs (suc i) ≡ Some g) × (test g ≡ true))
        → elim b as (λ _. Option ℕ) [ true ↦ Some (suc k) | false ↦ oldest_from (suc k) test fs ] ≡ Some n
        → (i : ℕ) × (n ≡ k + suc i) × (g : Frame) × (find_frame (f ∷ fs) (suc i) ≡ Some g) × (test g ≡ true)
    go true e more s = let same : suc k ≡ n = cc (s) in (0, omega (arith, same), f, refl, (both (not f.handed) (test f) e).1)
    go false e more s = let rest = more s in (suc rest.0, omega (arith, rest.1), rest.2, rest.3, rest.4)

pub frame_marked : (fs : List Frame) (k : ℕ) → find_frame (mark_handed fs k) k ≡ option_map (λ (f : Frame). record f { handed = true }) (find_frame fs k)
frame_marked [] zero = refl
frame_marked [] (suc k) = refl
frame_marked (f ∷ fs) zero = refl
frame_marked (f ∷ fs) (suc zero) = refl
frame_marked (f ∷ fs) (suc (suc j)) = frame_marked fs (suc j)

module _ (w : World) (k : ℕ) where
  abbrev m : World
  m = (happens w (Mark k)).world

  task_marked : task_of m (Action.Again k) ≡ task_of w (Action.Again k)
  task_marked = ap (λ (o : Option Frame). elim o as (λ _. Option Task) [ None ↦ None | Some f ↦ task_at w f.to.node (Event.Arrive f.from f.rec) ]) (frame_marked w.frames k) ∙ go (find_frame w.frames k)
    where
      go : (o : Option Frame) → elim (option_map (λ (f : Frame). record f { handed = true }) o) as (λ _. Option Task) [ None ↦ None | Some f ↦ task_at w f.to.node (Event.Arrive f.from f.rec) ]
          ≡ elim o as (λ _. Option Task) [ None ↦ None | Some f ↦ task_at w f.to.node (Event.Arrive f.from f.rec) ]
      go None = refl
      go (Some f) = refl

  -- the frame's node is the one that is passed to
  pub marked_at : (s : List ℕ) (a b : ℕ) → oldest_between w a b ≡ Some k → stands_at w s (Some b) ≡ true → stands_at m s (node_of_action m (Action.Again k)) ≡ true
  marked_at s a b oldest here =
      let f = oldest_found 0 (λ (g : Frame). (g.from.node == a) && (g.to.node == b)) w.frames k oldest in
      let frame : Frame = f.2 in
      let index : suc f.0 ≡ k = omega (arith, f.1) in
      let found : find_frame w.frames k ≡ Some frame = ap (find_frame w.frames) (sym index) ∙ f.3 in
      let to : frame.to.node ≡ b = let test = (both (frame.from.node == a) (frame.to.node == b) f.4).1 in grind (arith, nat_tests, test) in
      ap (λ (o : Option Frame). stands_at w s (elim o as (λ _. Option ℕ) [ None ↦ None | Some g ↦ Some g.to.node ])) (frame_marked w.frames k ∙ ap (option_map (λ (g : Frame). record g { handed = true })) found)
      ∙ ap (λ (n : ℕ). stands_at w s (Some n)) to ∙ here

  pub pass_gives : (s : List ℕ) (z : Site) (a b call fill : ℕ) (r : Result (Unit {0}) WorldFault) (before after : List OutLine) (v : CodeWorld) → find_site w.sites s ≡ Some z → oldest_between w a b ≡ Some k
      → Gives (stop_deed m s z call fill (OutLine.Take k ∷ []) (task_of m (Action.Again k))) before r after v → Gives (stop_named w s call fill (Action.Pass a b)) before r after v
  pass_gives s z a b call fill r before after v found oldest h =
      subst (λ (q : Result WorldTurn Fault). Gives q before r after v)
      (sym
      (ap (λ (o : Option ℕ). judged_by w s call fill (Action.Pass a b) (marked w o) (elim o as (λ _. Option Action) [ None ↦ None | Some j ↦ Some (Action.Again j) ])) oldest
      ∙ ap (λ (o : Option Site). elim (has_room w s (record_of w (Action.Again k))) as (λ _. Result WorldTurn Fault) [ false ↦ Err (Over What.Log) | true ↦ within_limits (turn_here m s call fill (Action.Again k) o) ]) found
      ∙ ap (λ (o : Option Task). elim (has_room w s (forced_by o)) as (λ _. Result WorldTurn Fault) [ false ↦ Err (Over What.Log) | true ↦ within_limits (stop_by m z call fill (OutLine.Take k ∷ []) (task_of m (Action.Again k))) ]) (sym task_marked)))
      h

pub no_pass_gives : (w : World) (s : List ℕ) (a b call fill : ℕ) (r : Result (Unit {0}) WorldFault) (before after : List OutLine) (v : CodeWorld) → oldest_between w a b ≡ None
    → Gives (within_limits (after_lines (OutLine.Nothing ∷ []) (after_stop w s RecordFate.None))) before r after v → Gives (stop_named w s call fill (Action.Pass a b)) before r after v
no_pass_gives w s a b call fill r before after v oldest h =
    subst (λ (q : Result WorldTurn Fault). Gives q before r after v)
    (sym (ap (λ (o : Option ℕ). judged_by w s call fill (Action.Pass a b) (marked w o) (elim o as (λ _. Option Action) [ None ↦ None | Some j ↦ Some (Action.Again j) ])) oldest)) h

-- the world in which it stops, once the frame is marked
pub stops_marked : (w : World) (s : List ℕ) (z : Site) (place k : ℕ) (v new : CodeWorld) → StopsIn w s z place v → Mirrors (happens w (Mark k)).world new → new.sites ≡ v.sites → StopsIn (happens w (Mark k)).world s z place new
stops_marked w s z place k v new h stand same = record {
  run = happens_on w (Mark k) h.run;
  mirrors = stand;
  site = h.site;
  at = h.at ∙ ap (λ xs. place_of_site xs.items s) (sym same);
}

-- ---- the line

pub site_found : (w : World) (s : List ℕ) → is_site w s ≡ true → (z : Site) × (find_site w.sites s ≡ Some z)
site_found w s h = go (find_site w.sites s) h
  where
    go : (o : Option Site) → elim o as (λ _. Bool) [ None ↦ false | Some x ↦ true ] ≡ true → (z : Site) × (o ≡ Some z)
    go None i = absurd (cc (i))
    go (Some z) i = (z, refl)

pub line_gives : (w : World) (s : List ℕ) (call fill : ℕ) (l : Action) (r : Result (Unit {0}) WorldFault) (before after : List OutLine) (v : CodeWorld) → is_site w s ≡ true → is_named w l ≡ true → stands_at w s (node_of_action w l) ≡ true
    → Gives (stop_named w s call fill l) before r after v → Gives (crash_in_line w s call fill l) before r after v
line_gives w s call fill l r before after v site name here h =
    gives_named (is_site w s && is_named w l && stands_at w s (node_of_action w l)) (stop_named w s call fill l) before after r v (rw (site, name, here) refl) h

-- ---- where the node of an event stands

pub stands_there : (w : World) (v : CodeWorld) (s : List ℕ) (n : ℕ) (a : Addr) (o : Option ℕ) → Mirrors w v → o ≡ Some n → Some a ≡ address_at v.nodes n → is_name a.site s ≡ stands_at w s o
stands_there w v s n a o h e there = go (find_node w.nodes n) (there ∙ address_stood w v n h) ∙ ap (stands_at w s) (sym e)
  where
    go : (q : Option Node) → Some a ≡ option_map addr_of q → is_name a.site s ≡ elim q as (λ _. Bool) [ None ↦ false | Some x ↦ is_name (site_of x) s ]
    go None i = absurd (cc (i))
    go (Some x) i = let same : a ≡ addr_of x = cc (i) in ap (λ (b : Addr). is_name b.site s) same

pub stands_nowhere : (w : World) (v : CodeWorld) (s : List ℕ) (n : ℕ) (o : Option ℕ) → Mirrors w v → o ≡ Some n → None ≡ address_at v.nodes n → false ≡ stands_at w s o
stands_nowhere w v s n o h e there = go (find_node w.nodes n) (there ∙ address_stood w v n h) ∙ ap (stands_at w s) (sym e)
  where
    go : (q : Option Node) → None ≡ option_map addr_of q → false ≡ elim q as (λ _. Bool) [ None ↦ false | Some x ↦ is_name (site_of x) s ]
    go None i = refl
    go (Some x) i = absurd (cc (i))
