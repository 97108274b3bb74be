-- What a start finds and leaves, as the definitions open a log.
use Rattle.std.proofs.Common.{◌≡◌, ◌⊎◌, inl, inr, ℕ, ◌<◌, ◌^◌, Bool, true, false, Option, Some, None, List, [], length, slice_index_or, refl, sym, ap, ◌∙◌, subst}
use Rattle.std.specs.List.{AllByRecursion}
use Rattle.tp_outside.specs.Story.{Story, Synced, seen}
use Rattle.tp_outside.proofs.Stories.{started, weaker}
use Rattle.tp_logrec.specs.declared.record.LogRec.{LogRec}
use Rattle.tp_logrec.specs.declared.record.LogVersion.{LogVersion}
use Rattle.tp_logrec.specs.LogText.{LogReading, Foreign, Reads, Placed, read_log, IsLog}
use Rattle.tp_logrec.specs.Order.{all_follow}
use Rattle.tp_logrec.proofs.Logs.{one_list}
use Rattle.tp_model.specs.LogCommands.{is_back, Opened, Has, Is_foreign, opened, in_order, moved, moved_by, disordered, start_leaves}
use Rattle.tp_journal.specs.declared.faults.StartFault.{StartFault}
use Rattle.tp_journal.specs.declared.receipts.Receipt.{Receipt}
use Rattle.tp_journal.specs.Disorder.{IsFirstOutOfOrder}
use Rattle.tp_journal.specs.Foreign.{IsForeign}
use Rattle.tp_journal.specs.Log.{StandsFor}
use Rattle.tp_journal.specs.Records.{HasText, bodies_of, version_of, placed, first_place, record_body}
use Rattle.tp_journal.specs.Start.{started_bytes, Starts, RefusesStart}
use Rattle.tp_journal.specs.Told.{IsOn, LeavesOnly}
use Rattle.tp_journal.proofs.AsLogs.{is_log, stands}
use Rattle.tp_journal.proofs.Unique.{one_meaning}
use Rattle.tp_log_tools.specs.Readings.{IsFile, as_placed}
use Rattle.tp_log_tools.specs.Opening.{ReadsAs, HoldsThroughout, Opens, LeavesLog, StopsOpening, stopped_by}
use Rattle.tp_log_tools.proofs.Breaking.{foreign_is_read}
use Rattle.tp_log_tools.proofs.Found.{started_by, started_is, found_is_read}
use Rattle.tp_log_tools.proofs.Ordered.{all_in_order, breaks_at}

-- ---- what is read, and what is opened

opened_so : (file : List ℕ) (reading : LogReading) → read_log file ≡ reading → opened file ≡ (elim reading as (λ _. Opened) [ Foreign at ↦ Is_foreign at | Reads ver ps gate ↦ in_order ver (moved (moved_by file) ps) ])
opened_so file reading is = ap (λ (w : LogReading). elim w as (λ _. Opened) [ Foreign at ↦ Is_foreign at | Reads ver ps gate ↦ in_order ver (moved (moved_by file) ps) ]) is

foreign_stays : (file : List ℕ) (at : ℕ) → read_log file ≡ Foreign at → start_leaves file ≡ file
foreign_stays file at is = started_is file ∙ ap (started_by file (is_back file)) is ∙ go (is_back file)
  where
    go : (t : Bool) → started_by file t (Foreign at) ≡ file
    go true = refl
    go false = refl

-- what is called foreign by a start
pub calls_foreign : (file : List ℕ) (at : ℕ) → IsFile file → IsForeign record_body file at → (opened file ≡ Is_foreign at) × (start_leaves file ≡ file)
calls_foreign file at is foreign =
    let read = foreign_is_read file at is foreign in
    (opened_so file (Foreign at) read, foreign_stays file at read)

abbrev judged : LogVersion → List Placed → Option ℕ → Opened
judged ver ps None = Has ver ps
judged ver ps (Some at) = Is_foreign at

judged_is : (ver : LogVersion) (ps : List Placed) → in_order ver ps ≡ judged ver ps (disordered [] ps)
judged_is ver ps = go (disordered [] ps)
  where
    go : (o : Option ℕ) → elim o as (λ _. Opened) [ None ↦ Has ver ps | Some at ↦ Is_foreign at ] ≡ judged ver ps o
    go None = refl
    go (Some at) = refl

module _ (file : List ℕ) (wide : Bool) (rs : List LogRec) (found : StandsFor file (bodies_of wide rs)) (small : length file < 2 ^ 64) (each : AllByRecursion (HasText wide) rs) where
  opens_to : opened file ≡ judged (version_of wide) (as_placed (placed wide rs)) (disordered [] (as_placed (placed wide rs)))
  opens_to =
      let alike = found_is_read file wide rs found small each in
      opened_so file (Reads (version_of wide) alike.listed alike.gate) alike.reads ∙ ap (in_order (version_of wide)) alike.places ∙ judged_is (version_of wide) (as_placed (placed wide rs))

  pub opens_in_order : all_follow rs ≡ true → opened file ≡ Has (version_of wide) (as_placed (placed wide rs))
  opens_in_order order = opens_to ∙ ap (judged (version_of wide) (as_placed (placed wide rs))) (all_in_order wide [] (first_place wide) rs order)

  pub opens_broken : (i : ℕ) (e : Receipt) → IsFirstOutOfOrder rs (Some i) → opened file ≡ Is_foreign (slice_index_or (placed wide rs) i e).place
  opens_broken i e first = opens_to ∙ ap (judged (version_of wide) (as_placed (placed wide rs))) (breaks_at wide [] (first_place wide) rs i e first.1 first.2 first.3)

  pub left_started : (new : Option Story) → IsOn new (started_bytes file (bodies_of wide rs) found) → IsOn new (start_leaves file)
  left_started new on = subst (IsOn new) (found_is_read file wide rs found small each).bytes on

  -- the records are those of the log
  pub same_records : (qs : List LogRec) → IsLog file qs → rs ≡ qs
  same_records qs log = one_list file rs qs small (is_log file wide rs each found) log

-- ---- at every moment

pub leaves_weaker : (P Q : List ℕ → Type 0) (old : Story) (new : Option Story) → ((c : List ℕ) → P c → Q c) → LeavesOnly P (Some old) new → LeavesOnly Q (Some old) new
leaves_weaker P Q old new implies leaves = (leaves.0, leaves.1, weaker P Q old leaves.0 implies leaves.2)

pub stays_held : (P : List ℕ → Type 0) (s : Story) (new : Option Story) → P (seen s) → (new ≡ Some s) ⊎ (new ≡ Some (Synced s)) → HoldsThroughout P s new
stays_held P s new holds (inl same) = inl same
stays_held P s new holds (inr synced) = inr (Synced s, synced, started P (Synced s) (λ c image. subst P (sym image) holds))

pub reads_still : (s : Story) (new : Option Story) (bytes : List ℕ) → bytes ≡ seen s → (new ≡ Some s) ⊎ (new ≡ Some (Synced s)) → ReadsAs new bytes
reads_still s new bytes is (inl same) = (s, same, sym is)
reads_still s new bytes is (inr synced) = (Synced s, synced, sym is)

pub reads_on : (new : Option Story) (bytes : List ℕ) → IsOn new bytes → ReadsAs new bytes
reads_on None bytes on = absurd on
reads_on (Some t) bytes on = (t, refl, on.1)

module _ (old new : Option Story) (wide : Bool) (list : List LogRec) (gate : ℕ) (starts : Starts old new gate (bodies_of wide list)) (each : AllByRecursion (HasText wide) list) where
  pub starts_open : all_follow list ≡ true → (s : Story) → old ≡ Some s → IsFile (seen s) → Opens (seen s) wide list new
  starts_open order s is file =
      let x = starts.2 s is in
      record { opens = opens_in_order (seen s) wide list x.0 file.small each order; left = left_started (seen s) wide list x.0 file.small each new x.3 }

  pub starts_leave : (s : Story) (rs : List LogRec) → old ≡ Some s → length (seen s) < 2 ^ 64 → IsLog (seen s) rs → LeavesLog s rs list new
  starts_leave s rs is small log =
      let x = starts.2 s is in
      let same : list ≡ rs = same_records (seen s) wide list x.0 small each rs log in
      record {
        same = same;
        moments = leaves_weaker (λ c. StandsFor c (bodies_of wide list)) (λ c. IsLog c rs) (Synced s) new (λ c stand. subst (λ l. IsLog c l) same (is_log c wide list each stand)) x.2;
      }

  pub starts_broken : (i : ℕ) (e : Receipt) → IsFirstOutOfOrder list (Some i) → (s : Story) → old ≡ Some s → IsFile (seen s) → (opened (seen s) ≡ Is_foreign (slice_index_or (placed wide list) i e).place) × ReadsAs new (start_leaves (seen s))
  starts_broken i e first s is file =
      let x = starts.2 s is in
      (opens_broken (seen s) wide list x.0 file.small each i e first, reads_on new (start_leaves (seen s)) (left_started (seen s) wide list x.0 file.small each new x.3))

-- ---- a start that is refused

pub refused_so : (old new : Option Story) (before after : ℕ) (fault : StartFault) → RefusesStart record_body old new before after fault
    → (s : Story) → old ≡ Some s → IsFile (seen s) → StopsOpening (seen s) new (stopped_by fault)
refused_so old new before after (StartFault.Foreign at) refuses s is file =
    let x = calls_foreign (seen s) at file (refuses.1 s is) in
    (x.0, reads_still s new (start_leaves (seen s)) x.1 (refuses.0 s is))
refused_so old new before after (StartFault.DiskFault faults) refuses s is file = tt
refused_so old new before after StartFault.NoMemory refuses s is file = tt

pub refused_leaves : (old new : Option Story) (before after : ℕ) (fault : StartFault) → RefusesStart record_body old new before after fault
    → (s : Story) (rs : List LogRec) → old ≡ Some s → length (seen s) < 2 ^ 64 → IsLog (seen s) rs → HoldsThroughout (λ c. IsLog c rs) s new
refused_leaves old new before after (StartFault.Foreign at) refuses s rs is small log = stays_held (λ c. IsLog c rs) s new log (refuses.0 s is)
refused_leaves old new before after StartFault.NoMemory refuses s rs is small log = stays_held (λ c. IsLog c rs) s new log (refuses s is)
refused_leaves old new before after (StartFault.DiskFault faults) refuses s rs is small log = go (refuses.0 s is)
  where
    go : (new ≡ Some s) ⊎ (new ≡ Some (Synced s)) ⊎ ((bodies : List (List ℕ)) × StandsFor (seen s) bodies × LeavesOnly (λ c. StandsFor c bodies) (Some (Synced s)) new) → HoldsThroughout (λ c. IsLog c rs) s new
    go (inl same) = inl same
    go (inr (inl synced)) = stays_held (λ c. IsLog c rs) s new log (inr synced)
    go (inr (inr (bodies, found, leaves))) =
        let x = stands (seen s) rs log in
        let same : bodies ≡ bodies_of x.0 rs = one_meaning (seen s) bodies (bodies_of x.0 rs) small found x.2 in
        inr (leaves_weaker (λ c. StandsFor c bodies) (λ c. IsLog c rs) (Synced s) new (λ c stand. is_log c x.0 rs x.1 (subst (λ b. StandsFor c b) same stand)) leaves)
