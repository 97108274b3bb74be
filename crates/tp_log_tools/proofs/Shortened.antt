-- What is left of a log that is made short.
use Rattle.std.proofs.Common.{◌≡◌, ◌⊎◌, inl, inr, ℕ, ◌+◌, ◌<◌, ◌≤◌, Bool, true, Option, Some, None, List, [], ◌∷◌, ◌++◌, length, refl, sym, ap, ◌∙◌, subst, arith, length-append}
use Rattle.std.specs.List.{AllByRecursion}
use Rattle.tp_outside.specs.Story.{Story, Synced}
use Rattle.tp_outside.proofs.Stories.{weaker, joined}
use Rattle.tp_logrec.specs.declared.record.LogRec.{LogRec}
use Rattle.tp_logrec.specs.declared.record.LogVersion.{LogVersion}
use Rattle.tp_logrec.specs.LogText.{IsLog}
use Rattle.tp_logrec.specs.Order.{brief}
use Rattle.tp_model.specs.LogCommands.{migrated, log_bytes as bytes_of, start_leaves}
use Rattle.tp_logrec.specs.LogText.{recs}
use Rattle.tp_journal.specs.declared.faults.ForceFault.{ForceFault}
use Rattle.tp_journal.specs.Journals.{Kept, RefusesMigrate, size_of}
use Rattle.tp_journal.specs.Log.{blocks, head, most_bytes, StandsForEither}
use Rattle.tp_journal.specs.Records.{HasText, text, bodies_of, log_bytes, receipts_from, placed, version_of, first_place}
use Rattle.tp_journal.specs.Started.{KeepsDisk}
use Rattle.tp_journal.specs.Told.{IsOn, LeavesOnly}
use Rattle.tp_journal.proofs.AsLogs.{bodies_text, is_log}
use Rattle.tp_journal.proofs.Briefs.{each-brief}
use Rattle.tp_journal.proofs.Widened.{texts_widened}
use Rattle.tp_log_tools.specs.Readings.{as_placed}
use Rattle.tp_log_tools.specs.Opening.{HoldsThroughout, Opens, LeavesLog}
use Rattle.tp_log_tools.specs.Shortening.{Compacts, Migrates, IsTooLong, StopsMigrate, migrated_by}

-- ---- bytes

pub records_placed : (wide : Bool) (at : ℕ) (rs : List LogRec) → recs (as_placed (receipts_from at wide rs)) ≡ rs
records_placed wide at [] = refl
records_placed wide at (r ∷ rs) = ap (λ l. r ∷ l) (records_placed wide (at + 3 + length (text wide r)) rs)

pub brief_alike : (wide : Bool) (rs : List LogRec) → brief rs ≡ brief (recs (as_placed (placed wide rs)))
brief_alike wide rs = ap brief (sym (records_placed wide (first_place wide) rs))

bytes_alike : (wide : Bool) (rs : List LogRec) → AllByRecursion (HasText wide) rs → log_bytes wide rs ≡ bytes_of (version_of wide) rs
bytes_alike wide rs each = ap (λ (l : List ℕ). head 1 ++ (l ++ 0 ∷ [])) (bodies_text wide rs each)

module _ (wide : Bool) (list : List LogRec) (each : AllByRecursion (HasText wide) list) where
  pub brief_texts : AllByRecursion (HasText wide) (brief list)
  brief_texts = each-brief (HasText wide) list each

  pub brief_widened : AllByRecursion (HasText true) (brief list)
  brief_widened = texts_widened wide (brief list) brief_texts

  compacted_alike : log_bytes wide (brief list) ≡ bytes_of (version_of wide) (brief (recs (as_placed (placed wide list))))
  compacted_alike = bytes_alike wide (brief list) brief_texts ∙ ap (bytes_of (version_of wide)) (brief_alike wide list)

  migrated_alike : log_bytes true (brief list) ≡ migrated (as_placed (placed wide list))
  migrated_alike = bytes_alike true (brief list) brief_widened ∙ ap (bytes_of LogVersion.Two) (brief_alike wide list)

  migrated_size : length (migrated (as_placed (placed wide list))) ≡ size_of true (brief list)
  migrated_size =
      let bodies = blocks (bodies_of true (brief list)) in
      omega (arith, ap length migrated_alike, length-append (head 1) (bodies ++ 0 ∷ []), length-append bodies (0 ∷ []))

  -- ---- how it ends

  module _ (file : List ℕ) (mid : Option Story) (opens : Opens file wide list mid) where
    -- the disk tells its story
    pub is_told : (t : Story) × (mid ≡ Some t)
    is_told = go mid opens.left
      where
        go : (o : Option Story) → IsOn o (start_leaves file) → (t : Story) × (o ≡ Some t)
        go None on = absurd on
        go (Some t) on = (t, refl)

    pub compacts_so : (new : Option Story) → ((t : Story) → mid ≡ Some t → IsOn new (log_bytes wide (brief list))) → Compacts file new
    compacts_so new bytes = record {
      version = version_of wide;
      listed = as_placed (placed wide list);
      opens = opens.opens;
      disk = subst (IsOn new) compacted_alike (bytes is_told.0 is_told.1);
    }

    pub migrates_so : (new : Option Story) → size_of true (brief list) ≤ most_bytes → ((t : Story) → mid ≡ Some t → IsOn new (log_bytes true (brief list))) → Migrates file new
    migrates_so new room bytes = record {
      version = version_of wide;
      listed = as_placed (placed wide list);
      opens = opens.opens;
      room = omega (arith, room, migrated_size);
      disk = subst (IsOn new) migrated_alike (bytes is_told.0 is_told.1);
    }

    pub too_long : most_bytes < size_of true (brief list) → IsTooLong file mid
    too_long long = record {
      version = version_of wide;
      listed = as_placed (placed wide list);
      opens = opens.opens;
      long = omega (arith, long, migrated_size);
      disk = opens.left;
    }

-- why it is not brought to version 2
pub migrate_stops : {D : Type 0} (told : D → Option Story) (file : List ℕ) (old new : Kept D) (before after : ℕ) → AllByRecursion (HasText old.wide) old.list → Opens file old.wide old.list (told old.disk)
    → (fault : ForceFault) → RefusesMigrate old before new after fault → KeepsDisk old.disk new.disk fault → StopsMigrate file (told new.disk) (migrated_by fault)
migrate_stops told file old new before after each opens (ForceFault.Full size) refuses same =
    let long : most_bytes < size_of true (brief old.list) = omega (arith, refuses.3, refuses.4) in
    subst (λ d. IsTooLong file (told d)) (sym same) (too_long old.wide old.list each file (told old.disk) opens long)
migrate_stops told file old new before after each opens (ForceFault.DiskFault faults) refuses same = tt
migrate_stops told file old new before after each opens (ForceFault.Shut faults) refuses same = tt
migrate_stops told file old new before after each opens ForceFault.NoMemory refuses same = tt

-- ---- at every moment

abbrev Either : List LogRec → List ℕ → Type 0
Either rs c = IsLog c rs ⊎ IsLog c (brief rs)

pub holds_either : (rs : List LogRec) (s : Story) (new : Option Story) → HoldsThroughout (λ c. IsLog c rs) s new → HoldsThroughout (λ c. IsLog c rs ⊎ IsLog c (brief rs)) s new
holds_either rs s new (inl same) = inl same
holds_either rs s new (inr leaves) = inr (leaves.0, leaves.1, weaker (λ c. IsLog c rs) (Either rs) (Synced s) leaves.0 (λ c log. inl log) leaves.2)

pub short_leaves : (s : Story) (rs list : List LogRec) (wide after : Bool) (mid new : Option Story) → AllByRecursion (HasText wide) list → AllByRecursion (HasText after) (brief list)
    → LeavesLog s rs list mid → ((t : Story) → mid ≡ Some t → LeavesOnly (StandsForEither (bodies_of wide list) (bodies_of after (brief list))) mid new)
    → HoldsThroughout (λ c. IsLog c rs ⊎ IsLog c (brief rs)) s new
short_leaves s rs list wide after mid new each short first more =
    let m = first.moments in
    let E : List ℕ → Type 0 = λ c. StandsForEither (bodies_of wide list) (bodies_of after (brief list)) c in
    let second : LeavesOnly E (Some m.0) new = subst (λ o. LeavesOnly E o new) m.1 (more m.0 m.1) in
    let early = weaker (λ c. IsLog c rs) (Either rs) (Synced s) m.0 (λ c log. inl log) m.2 in
    let late = weaker E (Either rs) m.0 second.0 (λ c stand. subst (λ l. Either l c) first.same (either c stand)) second.2 in
    inr (second.0, second.1, joined (Either rs) (Synced s) m.0 second.0 early late)
  where
    either : (c : List ℕ) → StandsForEither (bodies_of wide list) (bodies_of after (brief list)) c → Either list c
    either c (inl stand) = inl (is_log c wide list each stand)
    either c (inr stand) = inr (is_log c after (brief list) short stand)
