-- A site that starts on the log of a disk.
use Rattle.std.proofs.Common.{◌≡◌, inl, inr, ◌≤◌, ℕ, suc, ◌+◌, Bool, true, false, Option, Some, None, Result, Err, List, [], ◌∷◌, ◌++◌, length, map, refl, sym, ap, subst, ◌∙◌, arith}
use Rattle.std.specs.List.{AllByRecursion}
use Rattle.std.specs.Option.{option_map}
use Rattle.tp_outside.specs.Story.{Story, Synced, seen}
use Rattle.tp_outside.specs.FuseDisk.{Fused}
use Rattle.tp_logrec.specs.declared.record.LogRec.{LogRec}
use Rattle.tp_logrec.specs.declared.record.LogVersion.{LogVersion}
use Rattle.tp_logrec.specs.LogText.{IsLog, Placed}
use Rattle.tp_logrec.specs.Order.{all_follow, boot_by}
use Rattle.tp_model.specs.declared.verdict.What.{What}
use Rattle.tp_model.specs.Links.{greatest}
use Rattle.tp_model.specs.LogCommands.{Has, Is_foreign, opened, start_leaves}
use Rattle.tp_logrec.specs.LogText.{recs}
use Rattle.tp_model.specs.NodeRun.{Opening, boot_of}
use Rattle.tp_model.specs.NodeTranscript.{size_of, is_past_limit}
use Rattle.tp_journal.specs.declared.faults.StartFault.{StartFault as JournalFault}
use Rattle.tp_journal.specs.declared.faults.ForceFault.{ForceFault}
use Rattle.tp_journal.specs.declared.faults.ForceFault.TheVariants as force
use Rattle.tp_journal.specs.declared.receipts.Receipt.{Receipt}
use Rattle.tp_journal.specs.Disorder.{IsFirstOutOfOrder}
use Rattle.tp_journal.specs.Journals.{Kept}
use Rattle.tp_journal.specs.Keeping.{Standing, Forces}
use Rattle.tp_journal.specs.Log.{StandsFor}
use Rattle.tp_journal.specs.Records.{HasText, text, bodies_of, version_of, placed, receipts_from, first_place, record_body}
use Rattle.tp_journal.specs.Start.{Starts as JournalStarts, RefusesStart}
use Rattle.tp_journal.specs.Told.{LeavesOnly}
use Rattle.tp_journal.proofs.AsLogs.{bodies_text, is_log}
use Rattle.tp_log_tools.specs.Readings.{IsFile, as_placed}
use Rattle.tp_log_tools.specs.Opening.{ReadsAs}
use Rattle.tp_log_tools.proofs.Opened.{refused_so, refused_leaves, starts_open, starts_leave, starts_broken}
use Rattle.tp_log_tools.proofs.Shortened.{records_placed}
use Rattle.tp_site.specs.declared.faults.StartFault.{StartFault}
use Rattle.tp_site.specs.Shaped.{HasTextIfStarted}
use Rattle.tp_site.specs.Site.{Site, IsForced, IsStarted, Starts, opening_of, told_records}
use Rattle.tp_site.specs.Events.{IsAt, all_nodes}
use Rattle.tp_serve.specs.Images.{IsNodeImage}
use Rattle.tp_serve.specs.Progress.{journal_of, Holds, IsServing}
use Rattle.tp_serve.specs.Starting.{opening, unread_by, unstarted_by, HasStarted, IsSpent, IsLimitedBefore, NotStarted}
use Rattle.tp_serve.proofs.Fitting.{over_so, within_so}
use Rattle.tp_serve.proofs.Holding.{wide_so, only_weaker, leaves_now, holds_more, holds_still, fails_at, stored_room, full_over, not_shut}

-- ---- the records of a journal

recs_placed : (wide : Bool) (at : ℕ) (rs : List LogRec) → map (λ (r : Receipt). r.rec) (receipts_from at wide rs) ≡ rs
recs_placed wide at [] = refl
recs_placed wide at (r ∷ rs) = ap (λ (l : List LogRec). r ∷ l) (recs_placed wide (at + 3 + length (text wide r)) rs)

-- ---- why a journal does not start

pub unread : (name : List ℕ) (old new : Option Story) (before after : ℕ) (fault : JournalFault) → RefusesStart record_body old new before after fault
    → (s : Story) → old ≡ Some s → IsFile (seen s) → NotStarted name s new (unread_by fault)
unread name old new before after (JournalFault.Foreign at) refuses s is file = refused_so old new before after (JournalFault.Foreign at) refuses s is file
unread name old new before after (JournalFault.DiskFault n) refuses s is file = inl (λ rs log. refused_leaves old new before after (JournalFault.DiskFault n) refuses s rs is file.small log)
unread name old new before after JournalFault.NoMemory refuses s is file = λ rs log. refused_leaves old new before after JournalFault.NoMemory refuses s rs is file.small log

-- ---- a journal that has started

-- what the start of a journal says of it
pub record HasOpened {D : Type 0} (faults : D → ℕ) (told : D → Option Story) (disk : D) (j : Kept D) : Type 0 where
  pub starts : JournalStarts (told disk) (told j.disk) j.gate (bodies_of j.wide j.list)
  pub unshut : j.shut ≡ None
  pub texts : AllByRecursion (HasText j.wide) j.list
  pub counted : faults disk ≤ faults j.disk

-- no record tells a boot past the greatest number
abbrev boot_in : Option (LogRec × List ℕ) → ℕ
boot_in None = 0
boot_in (Some p) = boot_by 0 p.0

abbrev past : ℕ
past = 18446744073709551616

read_past : (wide : Bool) → HasText wide (LogRec.Boot past) → 0 ≡ past
read_past true h = ap boot_in h
read_past false h = ap boot_in h

pub boot_small : (wide : Bool) (n : ℕ) → HasText wide (LogRec.Boot n) → n ≡ suc greatest → ⊥
boot_small wide n h is = absurd (let e : 0 ≡ past = read_past wide (subst (λ (m : ℕ). HasText wide (LogRec.Boot m)) is h) in omega arith)

module _ {D : Type 0} (faults : D → ℕ) (told : D → Option Story) (fuse : D → Option Fused) (disk : D) (j : Kept D) (has : HasOpened faults told disk j) (name : List ℕ) where
  abbrev st : Kept D → Standing
  st = journal_of faults told fuse

  abbrev ver : LogVersion
  ver = version_of j.wide

  abbrev listed : List Placed
  listed = as_placed (placed j.wide j.list)

  abbrev o : Opening
  o = record { site = name; version = version_of j.wide; records = j.list }

  abbrev begun : Option Story
  begun = option_map Synced (told disk)

  abbrev boot : LogRec
  boot = LogRec.Boot (boot_of o)

  told_is : told_records (st j) ≡ j.list
  told_is = recs_placed j.wide (first_place j.wide) j.list

  opening_is : opening_of (st j) name ≡ o
  opening_is = ap (λ (l : List LogRec). record { site = name; version = version_of j.wide; records = l }) told_is

  listed_is : recs listed ≡ j.list
  listed_is = records_placed j.wide (first_place j.wide) j.list

  same_opening : opening name ver listed ≡ o
  same_opening = ap (λ (l : List LogRec). record { site = name; version = version_of j.wide; records = l }) listed_is

  size_is : j.gate + 1 ≡ size_of ver j.list
  size_is = omega (arith, has.starts.3, ap length (bodies_text j.wide j.list has.texts))

  moments_of : (old : Option Story) → told disk ≡ old → LeavesOnly (λ c. IsLog c j.list) (option_map Synced old) (told j.disk)
  moments_of None is = has.starts.1 is
  moments_of (Some s) is = only_weaker (λ c. StandsFor c (bodies_of j.wide j.list)) (λ c. IsLog c j.list) (Some (Synced s)) (told j.disk) (λ c stand. is_log c j.wide j.list has.texts stand) (has.starts.2 s is).2

  log : Holds (λ c. IsLog c j.list) ver j.list begun (faults disk) (st j)
  log = record {
    wide = wide_so j.wide ver refl;
    kept = told_is;
    texts = subst (λ (w : Bool). AllByRecursion (HasText w) j.list) (wide_so j.wide ver refl) has.texts;
    unshut = has.unshut;
    size = ap (λ (n : ℕ). Some n) size_is;
    moments = moments_of (told disk) refl;
    last = leaves_now (λ c. IsLog c j.list) begun (told j.disk) (moments_of (told disk) refl);
    counted = has.counted;
  }

  images : (c : List ℕ) → IsLog c j.list → IsNodeImage o [] 0 c
  images c x = inr (refl, x)

  with_boot : (c : List ℕ) → IsLog c (j.list ++ boot ∷ []) → IsNodeImage o [] 0 c
  with_boot c x = inl (0, omega arith, omega arith, x)

  boot_is : LogRec.Boot (boot_of (opening_of (st j) name)) ≡ boot
  boot_is = ap (λ (x : Opening). LogRec.Boot (boot_of x)) opening_is

  -- ---- the site

  opens_so : all_follow (told_records (st j)) ≡ true → (s : Story) → told disk ≡ Some s → IsFile (seen s) → opened (seen s) ≡ Has ver listed
  opens_so order s is file = (starts_open (told disk) (told j.disk) j.wide j.list j.gate has.starts has.texts (ap all_follow (sym told_is) ∙ order) s is file).opens

  pub has_started : (s : Site (Kept D)) → IsStarted st j name s → IsAt st all_nodes (opening_of (st j) name) [] s → HasText j.wide (LogRec.Boot (boot_of (opening_of (st j) name))) → HasStarted st name (told disk) (faults disk) s
  has_started s x at text =
      let forced : IsForced st j (Some boot) s.keeper = subst (λ (r : LogRec). IsForced st j (Some r) s.keeper) (ap (λ (n : ℕ). LogRec.Boot n) x.boot ∙ boot_is) x.forced in
      let has_text : HasText j.wide boot = subst (HasText j.wide) boot_is text in
      let serving : IsServing st o [] begun (faults disk) s = record {
        at = subst (λ (y : Opening). IsAt st all_nodes y [] s) opening_is at;
        is_open = x.shut;
        log = holds_more (λ c. IsLog c j.list) (IsNodeImage o [] 0) ver j.list begun (faults disk) (st j) log boot has_text images images with_boot forced.0 (st s.keeper) forced.1;
        room = within_so (size_of ver (j.list ++ boot ∷ [])) (stored_room (λ c. IsLog c j.list) (IsNodeImage o [] 0) ver j.list begun (faults disk) (st j) log boot forced.0 (st s.keeper) forced.1);
      } in
      record {
        version = ver;
        listed = listed;
        serving = subst (λ (y : Opening). IsServing st y [] begun (faults disk) s) (sym same_opening) serving;
        opens = opens_so x.order;
      }

  -- ---- no site

  forces_boot : (r : Result Receipt ForceFault) (new : Kept D) → Forces (st j) (LogRec.Boot (boot_of (opening_of (st j) name))) r (st new) → Forces (st j) boot r (st new)
  forces_boot r new x = subst (λ (b : LogRec). Forces (st j) b r (st new)) boot_is x

  module _ (s : Story) (is : told disk ≡ Some s) (file : IsFile (seen s)) where
    begun_is : begun ≡ Some (Synced s)
    begun_is = ap (option_map Synced) is

    limited : (new : Kept D) (what : What) → all_follow (told_records (st j)) ≡ true → IsSpent o what 0 → LeavesOnly (λ c. IsLog c j.list) begun (told new.disk) → IsLimitedBefore name s (told new.disk) what 0
    limited new what order spent moments = record {
      version = ver;
      listed = listed;
      opens = opens_so order s is file;
      spent = subst (λ (y : Opening). IsSpent y what 0) (sym same_opening) spent;
      moments = subst (λ (l : List LogRec). LeavesOnly (λ c. IsLog c l) (Some (Synced s)) (told new.disk)) (sym listed_is) (subst (λ (b : Option Story). LeavesOnly (λ c. IsLog c j.list) b (told new.disk)) begun_is moments);
    }

    pub not_started : (fault : StartFault) (new : Kept D) → Starts st j name (Err (new, fault)) → HasTextIfStarted {A = Site (Kept D)} j.wide (LogRec.Boot (boot_of (opening_of (st j) name))) (Err (new, fault)) → NotStarted name s (told new.disk) (unstarted_by fault)
    not_started (StartFault.Foreign at) new x text =
        let f = x.0 in
        let first : IsFirstOutOfOrder j.list (Some f.index) = subst (λ (l : List LogRec). IsFirstOutOfOrder l (Some f.index)) told_is f.first in
        let none : Receipt = record { place = 0; rec = boot } in
        let broken = starts_broken (told disk) (told j.disk) j.wide j.list j.gate has.starts has.texts f.index none first s is file in (
          broken.0 ∙ ap Is_foreign (f.place none),
          subst (λ (k : Kept D). ReadsAs (told k.disk) (start_leaves (seen s))) (sym x.1) broken.1,
        )
    not_started StartFault.BootsSpent new x text =
        limited new What.Boots x.0 (inl (refl, (refl, ap boot_of (sym opening_is) ∙ x.1))) (subst (λ (k : Kept D). LeavesOnly (λ c. IsLog c j.list) begun (told k.disk)) (sym x.2) log.moments)
    not_started (StartFault.Full size) new x text =
        let f = forces_boot (Err (force.Full size)) new x.unforced in
        let same = holds_still (λ c. IsLog c j.list) ver j.list begun (faults disk) (st j) log (st new) f.0 f.3 f.4 in
        let has_text : HasText j.wide boot = subst (HasText j.wide) boot_is text in
        let over : is_past_limit o [] ≡ true = over_so (size_of ver (j.list ++ boot ∷ [])) (full_over (λ c. IsLog c j.list) (λ c. IsLog c j.list) ver j.list begun (faults disk) (st j) log boot size (st new) f) in
        limited new What.Log x.order (inr (refl, (refl, boot_small j.wide (boot_of o) has_text, over))) same.moments
    not_started (StartFault.DiskFault n) new x text =
        let f = forces_boot (Err (force.DiskFault n)) new x.unforced in
        let has_text : HasText j.wide boot = subst (HasText j.wide) boot_is text in
        let failed = fails_at (λ c. IsLog c j.list) (IsNodeImage o [] 0) ver j.list begun (faults disk) (st j) log boot has_text images images with_boot n (st new) f in
        inr (record {
          version = ver;
          listed = listed;
          opens = opens_so x.order s is file;
          moments = subst (λ (y : Opening). LeavesOnly (IsNodeImage y [] 0) (Some (Synced s)) (told new.disk)) (sym same_opening) (subst (λ (b : Option Story). LeavesOnly (IsNodeImage o [] 0) b (told new.disk)) begun_is failed.moments);
        })
    not_started (StartFault.Shut n) new x text = absurd (not_shut (λ c. IsLog c j.list) (λ c. IsLog c j.list) ver j.list begun (faults disk) (st j) log boot n (st new) (forces_boot (Err (force.Shut n)) new x.unforced))
    not_started StartFault.NoMemory new x text = λ rs is_log_of.
        inr (subst (LeavesOnly (λ c. IsLog c rs) (Some (Synced s))) (ap (λ (t : Standing). t.story) (sym x)) (starts_leave (told disk) (told j.disk) j.wide j.list j.gate has.starts has.texts s rs is file.small is_log_of).moments)
