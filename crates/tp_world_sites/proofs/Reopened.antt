-- A journal that starts on a copy of another's bytes has its records, and finds no bytes that are foreign.
use Rattle.std.proofs.Common.{◌≡◌, inl, inr, ◌⊎◌, ◌<◌, ◌^◌, ℕ, suc, Bool, true, false, refl, ap, sym, ◌∙◌, subst, arith, Option, Some, None, Result, Ok, Err, List, [], length}
use Rattle.std.specs.List.{AllByRecursion}
use Rattle.tp_logrec.specs.declared.record.LogRec.{LogRec}
use Rattle.tp_outside.specs.declared.mem_disk.MemDisk.{MemDisk}
use Rattle.tp_outside.specs.MemDisk.{Recorded, recorded, fresh}
use Rattle.tp_outside.specs.Story.{Story, seen}
use Rattle.tp_journal.specs.Journals.{Kept, bodies_in}
use Rattle.tp_journal.specs.Log.{StandsFor, StandsInFront, place_behind}
use Rattle.tp_journal.specs.Records.{HasText, texts, bodies_of, wide_of, recs_of}
use Rattle.tp_journal.specs.Start.{Starts}
use Rattle.tp_journal.specs.Started.{IsStarted}
use Rattle.tp_journal.specs.Told.{IsOn, RestsAt}
use Rattle.tp_journal.proofs.RecordBodies.{wide_is, recs_is}
use Rattle.tp_journal.proofs.Unique.{one_meaning}
use Rattle.tp_logrec.specs.Order.{boots, last_number, all_follow}
use Rattle.tp_journal.specs.Records.{first_place}
use Rattle.tp_model.specs.Links.{greatest}
use Rattle.tp_site.specs.Site.{told_records, Starts as Starts_at}
use Rattle.tp_site.specs.declared.faults.StartFault.{StartFault as SiteStart}
use Rattle.tp_world_sites.specs.Slots.{standing}
use Rattle.tp_world_sites.specs.Restarts.{IsOpened, Opens, IsReopened, Reopens}
use Rattle.tp_world_sites.specs.declared.fault.WorldFault.{WorldFault}
use Rattle.tp_world_sites.proofs.Logs.{recs_of as logged_recs, kept_front}

-- the bytes of a journal that is not shut stand for its bodies
pub stood : (s : Story) (gate : ℕ) (bodies : List (List ℕ)) (shut : Option ℕ) → shut ≡ None → IsStarted (Some s) gate bodies shut → StandsFor (seen s) bodies
stood s gate bodies None unshut is = go is.kept
  where
    go : (Some s ≡ None) ⊎ RestsAt (Some s) gate bodies → StandsFor (seen s) bodies
    go (inl none) = absurd (cc (none))
    go (inr rests) = inl (subst (λ (f : List ℕ). StandsInFront f bodies) (sym rests.on.1) rests.stands)
stood s gate bodies (Some n) unshut is = absurd (cc (unshut))

-- a journal that starts on bytes that stand for records has these
pub opened : (file : List ℕ) (rs : List LogRec) (j : Kept MemDisk) (s : Story) → seen s ≡ file → length file < 2 ^ 64 → StandsFor file (bodies_of true rs) → AllByRecursion (HasText true) rs
    → Starts (Some s) (Some (recorded j.disk).story) j.gate (bodies_in j) × (j.shut ≡ None) → AllByRecursion (HasText j.wide) j.list → IsOpened file rs j
opened file rs j s same small stands texts started again =
    let at = started.0.2 s refl in
    let after : StandsFor file (bodies_in j) = subst (λ (f : List ℕ). StandsFor f (bodies_in j)) same at.0 in
    let one : bodies_in j ≡ bodies_of true rs = one_meaning file (bodies_in j) (bodies_of true rs) small after stands in
    record {
      list = sym (recs_is j.wide j.list again) ∙ ap recs_of one ∙ recs_is true rs texts;
      wide = sym (wide_is j.wide j.list) ∙ ap wide_of one ∙ wide_is true rs;
      gate = started.0.3 ∙ ap place_behind one;
      unshut = started.1;
      bytes = λ rest is. subst (λ (f : List ℕ). IsOn (Some (recorded j.disk).story) f) (kept_front (seen s) (bodies_in j) at.0 rest (same ∙ is) ∙ same) at.3;
    }

-- so has one that starts on the bytes of another
pub reopened : (old j : Kept MemDisk) (file : List ℕ) (shut : Option ℕ) → old.wide ≡ true → shut ≡ None → IsStarted (Some (recorded old.disk).story) old.gate (bodies_in old) shut → file ≡ seen (recorded old.disk).story → IsOpened file old.list j → IsReopened old j
reopened old j file shut wide unshut is same new = record {
  list = new.list;
  wide = new.wide ∙ sym wide;
  gate = new.gate ∙ ap (λ (b : Bool). place_behind (bodies_of b old.list)) (sym wide) ∙ sym is.place;
  unshut = new.unshut;
  bytes = λ rest on. subst (λ (f : List ℕ). IsOn (Some (recorded j.disk).story) f) (same ∙ on.1) (new.bytes rest (same ∙ on.1));
}

-- its bytes stand for its records
pub stands_for : (old : Kept MemDisk) (file : List ℕ) (shut : Option ℕ) → old.wide ≡ true → shut ≡ None → IsStarted (Some (recorded old.disk).story) old.gate (bodies_in old) shut → file ≡ seen (recorded old.disk).story → StandsFor file (bodies_of true old.list)
stands_for old file shut wide unshut is same =
    subst (λ (b : Bool). StandsFor file (bodies_of b old.list)) wide (subst (λ (f : List ℕ). StandsFor f (bodies_in old)) (sym same) (stood (recorded old.disk).story old.gate (bodies_in old) shut unshut is))

pub reopens : (old log : Kept MemDisk) (shut : Option ℕ) (disk : MemDisk) (r : Result (Kept MemDisk) WorldFault) → log ≡ old → shut ≡ log.shut → IsStarted (Some (recorded log.disk).story) log.gate (bodies_in log) shut → AllByRecursion (HasText log.wide) log.list
    → recorded disk ≡ fresh (seen (recorded old.disk).story) []
    → ((rs : List LogRec) → StandsFor (seen (recorded disk).story) (bodies_of true rs) → AllByRecursion (HasText true) rs → Opens (seen (recorded disk).story) rs r)
    → old.shut ≡ None → old.wide ≡ true → Reopens old r
reopens old log shut disk r same is started texts copied opens unshut wide = go r (opens old.list (stands_for old (seen (recorded disk).story) shut wide none here file_is) (subst (λ (b : Bool). AllByRecursion (HasText b) old.list) wide all))
  where
    file_is : seen (recorded disk).story ≡ seen (recorded old.disk).story
    file_is = ap (λ (q : Recorded). seen q.story) copied

    here : IsStarted (Some (recorded old.disk).story) old.gate (bodies_in old) shut
    here = subst (λ (j : Kept MemDisk). IsStarted (Some (recorded j.disk).story) j.gate (bodies_in j) shut) same started

    all : AllByRecursion (HasText old.wide) old.list
    all = subst (λ (j : Kept MemDisk). AllByRecursion (HasText j.wide) j.list) same texts

    none : shut ≡ None
    none = is ∙ ap (λ (j : Kept MemDisk). j.shut) same ∙ unshut

    go : (q : Result (Kept MemDisk) WorldFault) → Opens (seen (recorded disk).story) old.list q → Reopens old q
    go (Ok j) h = reopened old j (seen (recorded disk).story) shut wide none here file_is h
    go (Err WorldFault.Name) h = h
    go (Err (WorldFault.Limit what)) h = h
    go (Err WorldFault.NoMemory) h = tt

-- ---- no record is foreign, and there is a next boot

pub in_order : (j : Kept MemDisk) (name : List ℕ) (new : Kept MemDisk) (at : ℕ) (rs : List LogRec) → j.list ≡ rs → all_follow rs ≡ true → Starts_at standing j name (Err (new, SiteStart.Foreign at)) → ⊥
in_order j name new at rs list order h =
    let found : told_records (standing j) ≡ rs = logged_recs (first_place j.wide) j.wide j.list ∙ list in
    let wrong : all_follow (told_records (standing j)) ≡ false = h.0.first.0 in
    absurd (let clash : true ≡ false = sym order ∙ ap all_follow (sym found) ∙ wrong in cc (clash))

pub boots_left : (j : Kept MemDisk) (name : List ℕ) (new : Kept MemDisk) (rs : List LogRec) → j.list ≡ rs → last_number (boots rs) < greatest → Starts_at standing j name (Err (new, SiteStart.BootsSpent)) → ⊥
boots_left j name new rs list small h =
    let found : told_records (standing j) ≡ rs = logged_recs (first_place j.wide) j.wide j.list ∙ list in
    let same : suc (last_number (boots (told_records (standing j)))) ≡ suc (last_number (boots rs)) = ap (λ (l : List LogRec). suc (last_number (boots l))) found in
    let spent : suc (last_number (boots (told_records (standing j)))) ≡ suc greatest = h.1 in
    absurd (omega (arith, same, spent, small))

pub not_shut : (j : Kept MemDisk) (name : List ℕ) (new : Kept MemDisk) (n : ℕ) → j.shut ≡ None → Starts_at standing j name (Err (new, SiteStart.Shut n)) → ⊥
not_shut j name new n unshut h = absurd (let clash = sym unshut ∙ h.unforced.1 in cc (clash))
