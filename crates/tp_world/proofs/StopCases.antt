-- A site that stops in an event: the world that its stop leaves, in the code and in the definitions.
use Rattle.std.proofs.Common.{◌≡◌, ◌≢◌, ◌⊎◌, inl, inr, ◌≤◌, ◌<◌, ◌+◌, ◌-◌, ◌==◌, ◌++◌, ℕ, suc, nat_lt, Bool, true, false, cond, refl, ap, sym, ◌∙◌, subst, arith, Option, Some, None, Result, Ok, Err, List, [], ◌∷◌, length, reverse, slice_set, slice_index_or, slice_get}
use Rattle.std.specs.List.{AllByRecursion}
use Rattle.std.specs.Option.{option_map, is_some}
use Rattle.std.proofs.lemmas.Bool.Decides.{nat_tests}
use Rattle.std.proofs.lemmas.List.{length-reverse, reverse-append, length-append}
use Rattle.tp_names.specs.Same.{is_name}
use Rattle.tp_names.proofs.Sames.{name_same, name_self}
use Rattle.tp_names.specs.declared.identifiers.Aaid.{Aaid}
use Rattle.tp_logrec.specs.declared.record.LogRec.{LogRec}
use Rattle.tp_outside.specs.declared.mem_disk.MemDisk.{MemDisk}
use Rattle.tp_outside.specs.MemDisk.{Recorded, recorded, fresh}
use Rattle.tp_journal.specs.Journals.{Kept}
use Rattle.tp_journal.specs.Records.{HasText, bodies_of}
use Rattle.tp_model.specs.declared.out_line.OutLine.{OutLine}
use Rattle.tp_model.specs.declared.out_line.RecordFate.{RecordFate}
use Rattle.tp_model.specs.Disk.{Disk, Remains, disk_bytes, forced, remains}
use Rattle.tp_model.specs.Happenings.{trees_of, log_shown, logged, after_stop, stop_in_entry, stop_in_force, world_with_entry, WorldTurn}
use Rattle.tp_model.specs.History.{digest}
use Rattle.tp_model.specs.Lines.{Fault, log_size, most_bytes, within_limits}
use Rattle.tp_model.specs.Parts.{Entry as EntryValue}
use Rattle.tp_model.specs.World.{World, Node, Site, Frame, number_of, site_of, find_site, put_site}
use Rattle.tp_laws.specs.SiteLogs.{DisksTell, DisksStart}
use Rattle.tp_node.specs.declared.state.NodeTree.{NodeTree}
use Rattle.tp_site.specs.Site.{known_at}
use Rattle.tp_site.specs.State.{tree_in}
use Rattle.tp_network.specs.Nodes.{AreChanged}
use Rattle.tp_network.specs.declared.tree_summary.TreeChange.{TreeChange}
use Rattle.tp_world_sites.specs.Left.{IsReadable, LeavesBy}
use Rattle.tp_world_sites.specs.declared.left.Stop.{Stop}
use Rattle.tp_outside.specs.Story.{seen}
use Rattle.tp_journal.specs.Log.{StandsFor}
use Rattle.tp_world_sites.specs.Restarts.{tree_before, IsOpened, Opens}
use Rattle.tp_world.specs.Halts.{HasStoppedAs}
use Rattle.tp_world.specs.Settled.{tree_started, IsEntered}
use Rattle.tp_world_sites.specs.Sites.{IsLogged, place_of_site}
use Rattle.tp_world.specs.Stops.{HasPlayed}
use Rattle.tp_world_sites.specs.Standing.{SitesStand, RestStands, after_entry}
use Rattle.tp_world.specs.World.{Mirrors, Gives}
use Rattle.tp_world_sites.specs.declared.fault.WorldFault.{WorldFault}
use Rattle.tp_world_sites.specs.declared.site_slot.Entry.{Entry}
use Rattle.tp_world_sites.specs.declared.site_slot.SiteSlot.{SiteSlot}
use Rattle.tp_world.specs.declared.world.World.{World as CodeWorld}
use Rattle.tp_world.proofs.Booting.{slot_on}
use Rattle.tp_world.proofs.Crashing.{IsThere, place_there, same_index}
use Rattle.tp_world_sites.proofs.Entered.{change_by}
use Rattle.tp_world.proofs.EntryTurns.{rest_entered}
use Rattle.tp_world_sites.proofs.Found.{AreThere, each_placed, put_site_there}
use Rattle.tp_world.proofs.Halted.{stood_there, set_again, slot_stands, stopped_as_it_is}
use Rattle.tp_world_sites.proofs.Logs.{at_pushed}
use Rattle.tp_world_sites.proofs.Remaining.{stands_for_records, IsKept, IsLost, kept_or_lost, place_is, texts_before, text_last, remains_readable}
use Rattle.tp_world_sites.proofs.SiteLists.{site_name}
use Rattle.tp_world.proofs.StopTells.{IsLike, put_tells, put_starts, find_put_site}

-- ---- the journal on what is left

-- a journal that has started on the bytes of a disk is a log of it
pub log_opened : (z : Site) (y : SiteSlot) (j : Kept MemDisk) → IsOpened (disk_bytes z.disk) (reverse z.disk.records) j → IsReadable z.disk → nat_lt most_bytes (log_size z.disk.records) ≡ false → IsLogged z (slot_on y j)
log_opened z y j is readable room = record {
  list = is.list;
  wide = is.wide;
  gate = ap (λ (n : ℕ). n + 1) is.gate ∙ place_is z.disk.records readable.texts;
  unshut = is.unshut;
  room = room;
  closed = readable.closed;
  bytes = is.bytes _ refl;
}

-- ---- the entry stands

abbrev with_tree : List Aaid → TreeChange → List Aaid
with_tree ts q = ts ++ trees_of (tree_started q)

-- the node has it, and the site has played it
pub mirrors_entered : (w : World) (s : List ℕ) (z : Site) (n : Node) (e : EntryValue) (x : SiteSlot) (place : ℕ) (entry : Entry) (v new : CodeWorld) → HasPlayed w s z n (Some e) x place (Some entry) v → IsEntered (number_of n) entry.change v new
    → Mirrors (after_entry w n (Some e)) new
mirrors_entered w s z n e x place entry v new h is =
    let changed : AreChanged (number_of n) (change_by n e) v.nodes new.nodes = subst (λ (q : TreeChange). AreChanged (number_of n) q v.nodes new.nodes) h.entry.1 is.nodes in
    let trees : new.trees.items ≡ with_tree v.trees.items (change_by n e) = is.trees ∙ ap (with_tree v.trees.items) h.entry.1 in
    let rest : RestStands (after_entry w n (Some e)) new.nodes v.frames new.trees.items = rest_entered w n e v.nodes new.nodes v.frames v.trees.items new.trees.items h.rest h.found (h.legal e refl) changed trees in
    record {
      sites = subst (λ xs. SitesStand (after_entry w n (Some e)) xs.items) (sym is.sites) h.sites;
      rest = subst (λ (fs : List Frame). RestStands (after_entry w n (Some e)) new.nodes fs new.trees.items) (sym is.frames) rest;
    }

-- ---- the disk from before

module _ (w : World) (s : List ℕ) (z : Site) (n : Node) (ent : Option EntryValue) (x : SiteSlot) (place : ℕ) (entry : Option Entry) (v : CodeWorld) (h : HasPlayed w s z n ent x place entry v) (within : place < length v.sites.items) where
  pub name : z.name ≡ s
  name = site_name w.sites s z h.site

  pub at_home : find_site w.sites (site_of n) ≡ Some z
  at_home = ap (find_site w.sites) (name_same (site_of n) s h.here) ∙ h.site

  -- as it stood before the event
  pub stood : IsThere w s (slice_set v.sites.items place x) x
  stood = stood_there w s v.sites.items place x h.before h.at within h.same_name

  pub stood_site : stood.site ≡ z
  stood_site = let both : Some stood.site ≡ Some z = sym stood.found ∙ h.site in cc (both)

  -- and as it stands after it
  pub stands : (y : SiteSlot) → slice_index_or v.sites.items place y ≡ y → IsThere (after_entry w n ent) s v.sites.items y
  stands y is = place_there (after_entry w n ent) s v.sites.items y place h.sites h.at within is

-- ---- a record was forced

module _ (w : World) (s : List ℕ) (z : Site) (n : Node) (e : EntryValue) (r : LogRec) (x : SiteSlot) (place : ℕ) (entry : Entry) (v : CodeWorld) (h : HasPlayed w s z n (Some e) x place (Some entry) v) (within : place < length v.sites.items) (logs : e.rec ≡ Some r)
    (y : SiteSlot) (is : slice_index_or v.sites.items place y ≡ y) (texts : AllByRecursion (HasText y.site.keeper.wide) y.site.keeper.list) where
  abbrev next : World
  next = after_entry w n (Some e)

  abbrev at : IsThere next s v.sites.items y
  at = stands w s z n (Some e) x place (Some entry) v h within y is

  abbrev grown : Site
  grown = record z { disk = forced r z.disk }

  next_is : next ≡ record (world_with_entry w n e) { sites = put_site w.sites grown }
  next_is = ap (logged (world_with_entry w n e) n) logs ∙ ap (λ (o : Option Site). record (world_with_entry w n e) { sites = elim o as (λ _. List Site) [ None ↦ w.sites | Some q ↦ put_site w.sites (record q { disk = forced r q.disk }) ] }) (at_home w s z n (Some e) x place (Some entry) v h within)

  site_is : at.site ≡ grown
  site_is =
      let named : z.name ≡ s = name w s z n (Some e) x place (Some entry) v h within in
      let there : find_site (put_site w.sites grown) s ≡ cond (is_name z.name s) (Some grown) (find_site w.sites s) = find_put_site w.sites grown s (ap (λ (a : List ℕ). is_some (find_site w.sites a)) named ∙ ap is_some h.site) in
      let self : is_name z.name s ≡ true = ap (λ (a : List ℕ). is_name a s) named ∙ name_self s in
      let both : Some at.site ≡ Some grown = sym at.found ∙ ap (λ (u : World). find_site u.sites s) next_is ∙ there ∙ ap (λ (b : Bool). cond b (Some grown) (find_site w.sites s)) self in
      cc (both)

  pub list_is : y.site.keeper.list ≡ reverse (r ∷ z.disk.records)
  list_is = at.is.log.list ∙ ap (λ (q : Site). reverse q.disk.records) site_is

  all_texts : AllByRecursion (HasText true) (reverse (r ∷ z.disk.records))
  all_texts = subst (AllByRecursion (HasText true)) list_is (subst (λ (b : Bool). AllByRecursion (HasText b) y.site.keeper.list) at.is.log.wide texts)

  pub has_text : HasText true r
  has_text = text_last r z.disk.records all_texts

  pub readable : IsReadable z.disk
  readable = record {
    closed = subst (λ (q : Site). q.disk.gate ≢ 1) (stood_site w s z n (Some e) x place (Some entry) v h within) (stood w s z n (Some e) x place (Some entry) v h within).is.log.closed;
    texts = texts_before r z.disk.records all_texts;
  }

  pub room : log_size (r ∷ z.disk.records) ≤ most_bytes
  room = let fits : nat_lt most_bytes (log_size (r ∷ z.disk.records)) ≡ false = subst (λ (q : Site). nat_lt most_bytes (log_size q.disk.records) ≡ false) site_is at.is.log.room in grind (arith, nat_tests, fits)

  room_before : nat_lt most_bytes (log_size z.disk.records) ≡ false
  room_before = subst (λ (q : Site). nat_lt most_bytes (log_size q.disk.records) ≡ false) (stood_site w s z n (Some e) x place (Some entry) v h within) (stood w s z n (Some e) x place (Some entry) v h within).is.log.room

  -- the last of its records is that of the event
  pub last_is : slice_get y.site.keeper.list (length y.site.keeper.list - 1) ≡ Some r
  last_is =
      let rs : List LogRec = reverse z.disk.records in
      let count : length (rs ++ r ∷ []) ≡ length rs + 1 = length-append rs (r ∷ []) in
      let one : length (rs ++ r ∷ []) - 1 ≡ length rs = omega (arith, count) in
      ap (λ (l : List LogRec). slice_get l (length l - 1)) (list_is ∙ reverse-append (r ∷ []) z.disk.records) ∙ ap (slice_get (rs ++ r ∷ [])) one ∙ at_pushed rs r

  -- ---- what a stop in the force leaves

  pub left_ok : (stop : Stop) (rec : LogRec) (disk : MemDisk) (res : Result MemDisk WorldFault) → rec ≡ r → recorded disk ≡ fresh (disk_bytes z.disk) []
      → ((d : Disk) → recorded disk ≡ fresh (disk_bytes d) [] → IsReadable d → HasText true rec → log_size (rec ∷ d.records) ≤ most_bytes → LeavesBy stop rec d res) → LeavesBy stop r z.disk res
  left_ok stop rec disk res same on leaves =
      subst (λ (q : LogRec). (d : Disk) → recorded disk ≡ fresh (disk_bytes d) [] → IsReadable d → HasText true q → log_size (q ∷ d.records) ≤ most_bytes → LeavesBy stop q d res) same leaves z.disk on readable has_text room

  pub opened_ok : (stop : Stop) (left : MemDisk) (res : Result (Kept MemDisk) WorldFault) → LeavesBy stop r z.disk (Ok left)
      → ((rs : List LogRec) → StandsFor (seen (recorded left).story) (bodies_of true rs) → AllByRecursion (HasText true) rs → Opens (seen (recorded left).story) rs res)
      → Opens (disk_bytes (remains stop.call stop.fill r z.disk).disk) (reverse (remains stop.call stop.fill r z.disk).disk.records) res
  opened_ok stop left res leaves opens =
      let d : Disk = (remains stop.call stop.fill r z.disk).disk in
      let file : seen (recorded left).story ≡ disk_bytes d = ap (λ (q : Recorded). seen q.story) leaves in
      let good : IsReadable d = remains_readable stop.call stop.fill r z.disk readable has_text in
      subst (λ (f : List ℕ). Opens f (reverse d.records) res) file (opens (reverse d.records) (subst (λ (f : List ℕ). StandsFor f (bodies_of true (reverse d.records))) (sym file) (inl (stands_for_records d good))) good.texts)

  -- ---- a stop in the force, and the journal on what it leaves
  module _ (call fill : ℕ) (j : Kept MemDisk) (opens : IsOpened (disk_bytes (remains call fill r z.disk).disk) (reverse (remains call fill r z.disk).disk.records) j) where
    abbrev st : Remains
    st = remains call fill r z.disk

    count_is : length j.list ≡ length st.disk.records
    count_is = ap length opens.list ∙ length-reverse st.disk.records

    count_played : length y.site.keeper.list ≡ suc (length z.disk.records)
    count_played = ap length list_is ∙ length-reverse (r ∷ z.disk.records)

    -- it is kept where the journal has as many records as the site, else lost
    pub kept_here : length j.list ≡ length y.site.keeper.list → IsKept r z.disk st
    kept_here same = go (kept_or_lost call fill r z.disk readable.closed)
      where
        go : IsKept r z.disk (remains call fill r z.disk) ⊎ IsLost z.disk (remains call fill r z.disk) → IsKept r z.disk (remains call fill r z.disk)
        go (inl kept) = kept
        go (inr lost) = let few : length st.disk.records ≡ length z.disk.records = ap length lost.records in absurd (omega (arith, same, count_is, count_played, few))

    pub lost_here : length j.list ≢ length y.site.keeper.list → IsLost z.disk st
    lost_here other = go (kept_or_lost call fill r z.disk readable.closed)
      where
        go : IsKept r z.disk (remains call fill r z.disk) ⊎ IsLost z.disk (remains call fill r z.disk) → IsLost z.disk (remains call fill r z.disk)
        go (inl kept) = let all : length st.disk.records ≡ suc (length z.disk.records) = ap (λ (d : Disk). length d.records) kept.disk in absurd (other (omega (arith, count_is, count_played, all)))
        go (inr lost) = lost

    -- ---- kept

    kept_log : IsKept r z.disk st → IsLogged at.site (slot_on y j)
    kept_log kept =
        let disk : st.disk ≡ at.site.disk = kept.disk ∙ ap (λ (q : Site). q.disk) (sym site_is) in
        log_opened at.site y j (subst (λ (d : Disk). IsOpened (disk_bytes d) (reverse d.records) j) disk opens) (subst IsReadable disk (remains_readable call fill r z.disk readable has_text)) at.is.log.room

    pub kept_stopped : (new : CodeWorld) → IsKept r z.disk st → IsEntered (number_of n) entry.change v new → HasStoppedAs next new place None j (slot_on y j)
    kept_stopped new kept enters =
        let m : Mirrors next new = mirrors_entered w s z n e x place entry v new h enters in
        let sites : new.sites ≡ v.sites = enters.sites in
        let new_at : place ≡ place_of_site new.sites.items s = h.at ∙ ap (λ xs. place_of_site xs.items s) (sym sites) in
        let new_within : place < length new.sites.items = subst (λ xs. place < length xs.items) (sym sites) within in
        let new_is : slice_index_or new.sites.items place y ≡ y = ap (λ xs. slice_index_or xs.items place y) sites ∙ is in
        let there : IsThere next s new.sites.items y = place_there next s new.sites.items y place m.sites new_at new_within new_is in
        let same : Some there.site ≡ Some at.site = sym there.found ∙ at.found in
        let one : there.site ≡ at.site = cc (same) in
        stopped_as_it_is next s new place y j m.sites m.rest new_at new_within new_is there (subst (λ (q : Site). IsLogged q (slot_on y j)) (sym one) (kept_log kept))

    abbrev left : Site
    left = record z { disk = st.disk }

    abbrev by_fate : RecordFate → WorldTurn
    by_fate f =
        let u : World = record w { sites = put_site w.sites left } in
        after_stop (elim f as (λ _. World) [ RecordFate.Kept ↦ world_with_entry u n e | RecordFate.Lost ↦ u | RecordFate.None ↦ u ]) z.name f

    pub kept_turn : IsKept r z.disk st → after_stop next s RecordFate.Kept ≡ stop_in_force w n z e st
    kept_turn kept =
        ap (λ (u : World). after_stop u s RecordFate.Kept) (next_is ∙ ap (λ (d : Disk). record (world_with_entry w n e) { sites = put_site w.sites (record z { disk = d }) }) (sym kept.disk))
        ∙ ap (λ (a : List ℕ). after_stop (world_with_entry (record w { sites = put_site w.sites left }) n e) a RecordFate.Kept) (sym (name w s z n (Some e) x place (Some entry) v h within))
        ∙ ap by_fate (sym kept.fate)

    -- ---- lost

    abbrev back : World
    back = record w { sites = put_site w.sites left }

    pub lost_turn : IsLost z.disk st → after_stop back s RecordFate.Lost ≡ stop_in_force w n z e st
    lost_turn lost = ap (λ (a : List ℕ). after_stop back a RecordFate.Lost) (sym (name w s z n (Some e) x place (Some entry) v h within)) ∙ ap by_fate (sym lost.fate)

    like : IsLost z.disk st → IsLike z left
    like lost = record { name = refl; boot = refl; records = lost.records }

    found_self : find_site w.sites z.name ≡ Some z
    found_self = ap (find_site w.sites) (name w s z n (Some e) x place (Some entry) v h within) ∙ h.site

    pub lost_tells : IsLost z.disk st → DisksTell back
    lost_tells lost = put_tells w z left found_self (like lost) h.tells

    pub lost_starts : IsLost z.disk st → DisksStart back
    lost_starts lost = put_starts w z left found_self (like lost) h.starts

    lost_log : IsLost z.disk st → IsLogged left (slot_on x j)
    lost_log lost =
        log_opened left x j opens (remains_readable call fill r z.disk readable has_text) (ap (λ (rs : List LogRec). nat_lt most_bytes (log_size rs)) lost.records ∙ room_before)

    lost_sites : IsLost z.disk st → SitesStand back (slice_set v.sites.items place (slot_on x j))
    lost_sites lost =
        let old : IsThere w s (slice_set v.sites.items place x) x = stood w s z n (Some e) x place (Some entry) v h within in
        let same : old.site ≡ z = stood_site w s z n (Some e) x place (Some entry) v h within in
        subst (SitesStand back) (sym (set_again v.sites.items s place x (slot_on x j) h.at within h.same_name))
        (slot_stands w s (slice_set v.sites.items place x) x h.before old left j (ap (λ (q : Site). q.name) (sym same)) (ap (λ (q : Site). q.boot) (sym same)) (lost_log lost))

    lost_rest : RestStands back v.nodes v.frames v.trees.items
    lost_rest =
        let there : AreThere w back = record { nodes = λ k g. g; sites = λ t g. put_site_there w.sites left t ∙ g } in
        record {
          nodes = h.rest.nodes;
          apart = h.rest.apart;
          placed = each_placed w back w.nodes there h.rest.placed;
          frames = h.rest.frames;
          few = h.rest.few;
          trees = h.rest.trees;
          undriven = h.rest.undriven;
        }

    slot_same : slice_index_or v.sites.items place (slot_on x j) ≡ slice_index_or v.sites.items place x
    slot_same = same_index v.sites.items place (slot_on x j) x within

    entry_tree : entry.change.before ≡ tree_in (digest n.origin n.history)
    entry_tree = ap (λ (q : TreeChange). q.before) h.entry.1

    lost_trees : (node : ℕ) → node ≡ number_of n → (k : ℕ) → tree_before (slice_index_or v.sites.items place (slot_on x j)) (Some (record { node = node; tree = entry.change.before })) k ≡ tree_in (known_at x.site k)
    lost_trees node number k = go (node == k) refl
      where
        go : (b : Bool) → (node == k) ≡ b → elim b as (λ _. Option NodeTree) [ true ↦ entry.change.before | false ↦ tree_in (known_at (slice_index_or v.sites.items place (slot_on x j)).site k) ] ≡ tree_in (known_at x.site k)
        go true here =
            let same : number_of n ≡ k = let e : node ≡ k = grind (arith, nat_tests, here) in sym number ∙ e in
            entry_tree ∙ sym (ap tree_in h.node_knew) ∙ ap (λ (m : ℕ). tree_in (known_at x.site m)) same
        go false other =
            let apart : (number_of n == k) ≡ false = ap (λ (m : ℕ). m == k) (sym number) ∙ other in
            ap (λ (q : SiteSlot). tree_in (known_at q.site k)) slot_same ∙ ap tree_in (h.known k apart)

    pub lost_stopped : (node : ℕ) → node ≡ number_of n → IsLost z.disk st → HasStoppedAs back v place (Some (record { node = node; tree = entry.change.before })) j (slot_on x j)
    lost_stopped node number lost = record {
      sites = lost_sites lost;
      rest = lost_rest;
      log = refl;
      name = ap (λ (q : SiteSlot). q.site.nodes.site) slot_same ∙ h.same_name;
      trees = lost_trees node number;
    }

-- ---- faults

pub left_fails : (stop : Stop) (r : LogRec) (d : Disk) (f : WorldFault) (q : Result WorldTurn Fault) (before after : List OutLine) (v : CodeWorld) → LeavesBy stop r d (Err f) → Gives q before (Err f) after v
left_fails stop r d WorldFault.Name q before after v h = absurd h
left_fails stop r d (WorldFault.Limit what) q before after v h = absurd h
left_fails stop r d WorldFault.NoMemory q before after v h = tt

pub opens_fails : (file : List ℕ) (rs : List LogRec) (f : WorldFault) (q : Result WorldTurn Fault) (before after : List OutLine) (v : CodeWorld) → Opens file rs (Err f) → Gives q before (Err f) after v
opens_fails file rs WorldFault.Name q before after v h = absurd h
opens_fails file rs (WorldFault.Limit what) q before after v h = absurd h
opens_fails file rs WorldFault.NoMemory q before after v h = tt

-- ---- the entry that the history gains

pub entry_none : (w : World) (s : List ℕ) (z : Site) (n : Node) (ent : Option EntryValue) (x : SiteSlot) (place call fill : ℕ) (v last : CodeWorld) (res : Result (Unit {0}) WorldFault) (before after : List OutLine) → HasPlayed w s z n ent x place None v
    → (DisksTell w → DisksStart w → place ≡ place_of_site v.sites.items s → Mirrors w v → Gives (within_limits (after_stop w s RecordFate.None)) before res after last) → Gives (within_limits (stop_in_entry w n z call fill ent)) before res after last
entry_none w s z n None x place call fill v last res before after h k =
    subst (λ (a : List ℕ). Gives (within_limits (after_stop w a RecordFate.None)) before res after last) (sym (site_name w.sites s z h.site)) (k h.tells h.starts h.at (record { sites = h.sites; rest = h.rest }))
entry_none w s z n (Some e) x place call fill v last res before after h k = absurd h.entry

pub entry_forced : (w : World) (s : List ℕ) (z : Site) (n : Node) (ent : Option EntryValue) (x : SiteSlot) (place call fill : ℕ) (entry : Entry) (v last : CodeWorld) (res : Result (Unit {0}) WorldFault) (before after : List OutLine) → HasPlayed w s z n ent x place (Some entry) v
    → is_some entry.change.rec ≡ true
    → ((e : EntryValue) (r : LogRec) → HasPlayed w s z n (Some e) x place (Some entry) v → e.rec ≡ Some r → Gives (within_limits (stop_in_force w n z e (remains call fill r z.disk))) before res after last)
    → Gives (within_limits (stop_in_entry w n z call fill ent)) before res after last
entry_forced w s z n None x place call fill entry v last res before after h has k = absurd h.entry
entry_forced w s z n (Some e) x place call fill entry v last res before after h has k = go e.rec refl
  where
    shown : entry.change.rec ≡ option_map log_shown e.rec
    shown = ap (λ (q : TreeChange). q.rec) h.entry.1

    go : (o : Option LogRec) → e.rec ≡ o
        → Gives (within_limits (elim o as (λ _. WorldTurn) [ None ↦ after_stop (world_with_entry w n e) z.name RecordFate.None | Some r ↦ stop_in_force w n z e (remains call fill r z.disk) ])) before res after last
    go None none = absurd (let clash = sym has ∙ ap is_some (shown ∙ ap (option_map log_shown) none) in cc (clash))
    go (Some r) is = k e r h is

pub entry_plain : (w : World) (s : List ℕ) (z : Site) (n : Node) (ent : Option EntryValue) (x : SiteSlot) (place call fill node : ℕ) (entry : Entry) (v new last : CodeWorld) (res : Result (Unit {0}) WorldFault) (before after : List OutLine)
    → HasPlayed w s z n ent x place (Some entry) v → is_some entry.change.rec ≡ false → node ≡ number_of n → IsEntered node entry.change v new
    → ((u : World) → DisksTell u → DisksStart u → place ≡ place_of_site new.sites.items s → Mirrors u new → Gives (within_limits (after_stop u s RecordFate.None)) before res after last)
    → Gives (within_limits (stop_in_entry w n z call fill ent)) before res after last
entry_plain w s z n None x place call fill node entry v new last res before after h has number enters k = absurd h.entry
entry_plain w s z n (Some e) x place call fill node entry v new last res before after h has number enters k = go e.rec refl
  where
    shown : entry.change.rec ≡ option_map log_shown e.rec
    shown = ap (λ (q : TreeChange). q.rec) h.entry.1

    entered_here : IsEntered (number_of n) entry.change v new
    entered_here = subst (λ (m : ℕ). IsEntered m entry.change v new) number enters

    stopped : Gives (within_limits (after_stop (after_entry w n (Some e)) s RecordFate.None)) before res after last
    stopped =
        k (after_entry w n (Some e)) h.tells_after h.starts_after (h.at ∙ ap (λ xs. place_of_site xs.items s) (sym enters.sites)) (mirrors_entered w s z n e x place entry v new h entered_here)

    go : (o : Option LogRec) → e.rec ≡ o
        → Gives (within_limits (elim o as (λ _. WorldTurn) [ None ↦ after_stop (world_with_entry w n e) z.name RecordFate.None | Some r ↦ stop_in_force w n z e (remains call fill r z.disk) ])) before res after last
    go None none =
        subst (λ (a : List ℕ). Gives (within_limits (after_stop (world_with_entry w n e) a RecordFate.None)) before res after last) (sym (site_name w.sites s z h.site))
        (subst (λ (o : Option LogRec). Gives (within_limits (after_stop (logged (world_with_entry w n e) n o) s RecordFate.None)) before res after last) none stopped)
    go (Some r) is = absurd (let clash = sym has ∙ ap is_some (shown ∙ ap (option_map log_shown) is) in cc (clash))
