-- The log of a site: one record more, and a fresh one.
use Rattle.std.proofs.Common.{◌≡◌, inl, inr, ◌<◌, ◌+◌, ◌-◌, ◌^◌, ◌++◌, ℕ, Bool, true, false, refl, ap, sym, ◌∙◌, subst, arith, nat_lt, Option, Some, None, List, [], ◌∷◌, length, map, slice_get, slice_index_or}
use Rattle.std.specs.Option.{option_map}
use Rattle.std.proofs.lemmas.Bool.Decides.{nat_tests}
use Rattle.std.proofs.lemmas.List.{reverse-append}
use Rattle.tp_logrec.specs.declared.record.LogRec.{LogRec}
use Rattle.tp_logrec.specs.LogText.{version_mark}
use Rattle.tp_outside.specs.declared.mem_disk.MemDisk.{MemDisk}
use Rattle.tp_outside.specs.Story.{Story, seen}
use Rattle.tp_outside.specs.MemDisk.{recorded}
use Rattle.tp_journal.specs.declared.receipts.Receipt.{Receipt}
use Rattle.tp_journal.specs.declared.faults.ForceFault.TheVariants as force
use Rattle.tp_journal.specs.Journals.{Kept, bodies_in}
use Rattle.tp_journal.specs.Keeping.{longer, Stored}
use Rattle.tp_journal.specs.Log.{StandsFor, place_behind, forced_bytes, head, blocks}
use Rattle.tp_journal.specs.Records.{text, bodies_of, placed, receipts_from, first_place}
use Rattle.tp_journal.specs.Start.{Starts, started_bytes}
use Rattle.tp_journal.specs.Told.{IsOn}
use Rattle.tp_journal.proofs.Unique.{one_meaning}
use Rattle.tp_model.specs.Disk.{Disk, disk_bytes, forced}
use Rattle.tp_model.specs.Happenings.{log_shown}
use Rattle.tp_model.specs.Lines.{log_size, most_bytes}
use Rattle.tp_model.specs.World.{Site}
use Rattle.tp_site.specs.Site.{IsForced, IsUnforced}
use Rattle.tp_world_sites.specs.Sites.{IsLogged}
use Rattle.tp_world_sites.proofs.DiskBytes.{forced_is, stored_short}
use Rattle.tp_world_sites.specs.Slots.{standing, shown_behind, blank_file, IsBlank}
use Rattle.tp_world_sites.specs.declared.site_slot.SiteSlot.{SiteSlot}

-- ---- records after their receipts

pub recs_of : (at : ℕ) (wide : Bool) (rs : List LogRec) → map (λ (r : Receipt). r.rec) (receipts_from at wide rs) ≡ rs
recs_of at wide [] = refl
recs_of at wide (r ∷ rs) = ap (λ (l : List LogRec). r ∷ l) (recs_of (at + 3 + length (text wide r)) wide rs)

recs_push : (rs : List Receipt) (r : Receipt) → map (λ (q : Receipt). q.rec) (rs ++ r ∷ []) ≡ map (λ (q : Receipt). q.rec) rs ++ r.rec ∷ []
recs_push [] r = refl
recs_push (q ∷ rs) r = ap (λ (l : List LogRec). q.rec ∷ l) (recs_push rs r)

-- a record that is stored stands after the others
pub stored_list : (old new : Kept MemDisk) (rec : LogRec) (r : Receipt) → Stored (standing old) rec r (standing new) → new.list ≡ old.list ++ rec ∷ []
stored_list old new rec r h =
    sym (recs_of (first_place new.wide) new.wide new.list)
    ∙ ap (map (λ (q : Receipt). q.rec)) h.kept
    ∙ recs_push (placed old.wide old.list) r
    ∙ ap (λ (l : List LogRec). l ++ r.rec ∷ []) (recs_of (first_place old.wide) old.wide old.list)
    ∙ ap (λ (q : LogRec). old.list ++ q ∷ []) h.same

pub stored_gate : (old new : Kept MemDisk) (rec : LogRec) (r : Receipt) → Stored (standing old) rec r (standing new) → new.gate + 1 ≡ longer (old.gate + 1) old.wide rec
stored_gate old new rec r h = let told = h.length_told in cc (told)

-- ---- one record more

-- the definitions measure a record as the journal does
size_more : (r : LogRec) (rs : List LogRec) (n : ℕ) → n ≡ log_size rs → longer n true r ≡ log_size (r ∷ rs)
size_more r rs n h = omega (arith, h)

-- and its bytes are those of the definitions
pub bytes_forced : (d : Disk) (old new : Kept MemDisk) (r : LogRec) (receipt : Receipt) → old.wide ≡ true → old.gate + 1 ≡ log_size d.records → Stored (standing old) r receipt (standing new)
    → IsOn (Some (recorded old.disk).story) (disk_bytes d) → IsOn (Some (recorded new.disk).story) (disk_bytes (forced r d))
bytes_forced d old new r receipt wide place h on =
    let said : IsOn (Some (recorded new.disk).story) (forced_bytes (old.gate + 1 - 1) (text old.wide r) (disk_bytes d)) = h.bytes (disk_bytes d) on in
    let short : length (text old.wide r) < 2 ^ 16 = stored_short old.wide (map (λ (q : Receipt). q.rec) (placed old.wide old.list)) r (recorded new.disk).story h.last in
    let at : old.gate + 1 - 1 ≡ old.gate = omega arith in
    let is : forced_bytes (old.gate + 1 - 1) (text old.wide r) (disk_bytes d) ≡ disk_bytes (forced r d) =
    ap (λ (n : ℕ). forced_bytes n (text old.wide r) (disk_bytes d)) at
    ∙ ap (λ (b : Bool). forced_bytes old.gate (text b r) (disk_bytes d)) wide
    ∙ forced_is r d old.gate place (subst (λ (b : Bool). length (text b r) < 2 ^ 16) wide short) in
    subst (λ (f : List ℕ). IsOn (Some (recorded new.disk).story) f) is said

pub log_forced : (s : Site) (x y : SiteSlot) (r : LogRec) → IsLogged s x → IsForced standing x.site.keeper (Some r) y.site.keeper → IsLogged (record s { disk = forced r s.disk }) y
log_forced s x y r log (receipt, stores) =
    let old : Kept MemDisk = x.site.keeper in
    let new : Kept MemDisk = y.site.keeper in
    let size : longer (old.gate + 1) old.wide r ≡ log_size (r ∷ s.disk.records) = ap (λ (b : Bool). longer (old.gate + 1) b r) log.wide ∙ size_more r s.disk.records (old.gate + 1) log.gate in
    record {
      list = stored_list old new r receipt stores ∙ ap (λ (l : List LogRec). l ++ r ∷ []) log.list ∙ sym (reverse-append (r ∷ []) s.disk.records);
      wide = stores.wide ∙ log.wide;
      gate = stored_gate old new r receipt stores ∙ size;
      unshut = stores.open_after;
      room = let room = stores.room in grind (arith, nat_tests, room, size);
      closed = λ e. absurd (omega (arith, e));
      bytes = bytes_forced s.disk old new r receipt log.wide log.gate stores log.bytes;
    }

pub log_kept : (s : Site) (x y : SiteSlot) → IsLogged s x → IsForced standing x.site.keeper None y.site.keeper → IsLogged s y
log_kept s x y log same = record {
  list = ap (λ (j : Kept MemDisk). j.list) same ∙ log.list;
  wide = ap (λ (j : Kept MemDisk). j.wide) same ∙ log.wide;
  gate = ap (λ (j : Kept MemDisk). j.gate + 1) same ∙ log.gate;
  unshut = ap (λ (j : Kept MemDisk). j.shut) same ∙ log.unshut;
  room = log.room;
  closed = log.closed;
  bytes = subst (λ (j : Kept MemDisk). IsOn (Some (recorded j.disk).story) (disk_bytes s.disk)) (sym same) log.bytes;
}

-- a record that has no room would make the log of the definitions full
pub log_over : (s : Site) (x : SiteSlot) (new : Kept MemDisk) (r : LogRec) (size : ℕ) → IsLogged s x → IsUnforced standing x.site.keeper (Some r) (force.Full size) new → nat_lt most_bytes (log_size (r ∷ s.disk.records)) ≡ true
log_over s x new r size log full =
    let old : Kept MemDisk = x.site.keeper in
    let same : longer (old.gate + 1) old.wide r ≡ log_size (r ∷ s.disk.records) = ap (λ (b : Bool). longer (old.gate + 1) b r) log.wide ∙ size_more r s.disk.records (old.gate + 1) log.gate in
    let is : size ≡ longer (old.gate + 1) old.wide r = full.1.0 in
    let over : most_bytes < size = full.1.1 in
    grind (arith, nat_tests, same, is, over)

-- ---- the record that is shown

at_end : (rs : List LogRec) → slice_get rs (length rs) ≡ None
at_end [] = refl
at_end (r ∷ rs) = at_end rs

pub at_pushed : (rs : List LogRec) (r : LogRec) → slice_get (rs ++ r ∷ []) (length rs) ≡ Some r
at_pushed [] r = refl
at_pushed (q ∷ rs) r = at_pushed rs r

-- what stands after the records from before is the one that was forced
pub shown_forced : (old new : Kept MemDisk) (rec : Option LogRec) → IsForced standing old rec new → shown_behind new.list (length old.list) ≡ option_map log_shown rec
shown_forced old new None same = ap (λ (j : Kept MemDisk). shown_behind j.list (length old.list)) same ∙ ap (option_map log_shown) (at_end old.list)
shown_forced old new (Some r) (receipt, stores) =
    ap (λ (l : List LogRec). shown_behind l (length old.list)) (stored_list old new r receipt stores) ∙ ap (option_map log_shown) (at_pushed old.list r)

-- ---- a fresh log

-- the texts of records are no mark
no_mark : (r : LogRec) → text false r ≡ version_mark → ⊥
no_mark (LogRec.Boot n) is = absurd cc
no_mark (LogRec.Ready n k a cs) is = absurd cc
no_mark (LogRec.Heuristic n k o) is = absurd cc
no_mark (LogRec.Commit n k a cs) is = absurd cc
no_mark (LogRec.Damage n k a o r cs) is = absurd cc
no_mark (LogRec.End n k o) is = absurd cc

mark_alone : (wide : Bool) (rs : List LogRec) → bodies_of wide rs ≡ version_mark ∷ [] → (wide ≡ true) × (rs ≡ [])
mark_alone true [] is = (refl, refl)
mark_alone true (r ∷ rs) is = absurd cc
mark_alone false [] is = absurd cc
mark_alone false (r ∷ rs) is = let same : text false r ≡ version_mark = cc (is) in absurd (no_mark r same)

blank_stands : StandsFor blank_file (bodies_of true [])
blank_stands = inl (record {
  selector = 1;
  gate = 0;
  rest = [];
  whole = refl;
  selects = λ e. absurd (omega (arith, e));
  closed = λ e. absurd (omega (arith, e));
  each = ((omega arith, omega arith), tt);
})

-- a start leaves a file as it is, whose bodies stand at the front
pub kept_front : (file : List ℕ) (bodies : List (List ℕ)) (stands : StandsFor file bodies) (rest : List ℕ) → file ≡ head 1 ++ rest → started_bytes file bodies stands ≡ file
kept_front file bodies (inl front) rest is = refl
kept_front file bodies (inr behind) rest is =
    let fifth : 1 ≡ 2 = ap (λ (l : List ℕ). slice_index_or l 4 0) (sym is ∙ behind.whole) in
    absurd (omega (arith, fifth))

-- a journal that starts on that file is blank
pub blank_started : (j : Kept MemDisk) (s : Story) → IsOn (Some s) blank_file → Starts (Some s) (Some (recorded j.disk).story) j.gate (bodies_in j) × (j.shut ≡ None) → IsBlank j
blank_started j s on started =
    let stands : StandsFor blank_file (bodies_in j) = subst (λ (f : List ℕ). StandsFor f (bodies_in j)) on.1 (started.0.2 s refl).0 in
    let small : length blank_file < 2 ^ 64 = omega arith in
    let one : bodies_in j ≡ bodies_of true [] = one_meaning blank_file (bodies_in j) (bodies_of true []) small stands blank_stands in
    let both = mark_alone j.wide j.list one in
    let at = started.0.2 s refl in
    let left : IsOn (Some (recorded j.disk).story) blank_file =
    subst (λ (f : List ℕ). IsOn (Some (recorded j.disk).story) f) (kept_front (seen s) (bodies_in j) at.0 (blocks (bodies_of true []) ++ 0 ∷ []) on.1 ∙ on.1) at.3 in
    record { list = both.1; wide = both.0; gate = started.0.3 ∙ ap place_behind one; unshut = started.1; bytes = left }
