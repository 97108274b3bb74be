-- What a drive over the log of a disk says of that disk.
use Rattle.std.specs.List.{AllByRecursion}
use Rattle.std.proofs.Common.{◌≡◌, inl, inr, ◌≤◌, ◌<◌, ◌+◌, ℕ, suc, Bool, true, Option, Some, None, Err, List, [], ◌∷◌, ◌++◌, length, refl, sym, ap, subst, ◌∙◌, arith}
use Rattle.std.proofs.lemmas.List.{append-nil}
use Rattle.tp_outside.specs.Story.{Story, Synced, seen}
use Rattle.tp_outside.specs.FuseDisk.{Fused}
use Rattle.tp_records.specs.declared.body.Event.{Event as Given}
use Rattle.tp_records.specs.declared.body.Output.{Output}
use Rattle.tp_logrec.specs.declared.record.LogRec.{LogRec}
use Rattle.tp_logrec.specs.Order.{all_follow}
use Rattle.tp_model.specs.Links.{greatest}
use Rattle.tp_model.specs.NodeRun.{Opening, boot_of}
use Rattle.tp_model.specs.NodeTranscript.{size_of}
use Rattle.tp_journal.specs.declared.faults.StartFault.{StartFault as JournalFault}
use Rattle.tp_journal.specs.declared.receipts.Receipt.{Receipt}
use Rattle.tp_journal.specs.Journals.{Kept}
use Rattle.tp_journal.specs.Keeping.{Standing}
use Rattle.tp_journal.specs.Log.{StandsFor, StandsForEither, most_bytes, place_behind}
use Rattle.tp_journal.specs.Records.{HasText, bodies_of, first_place, placed, record_body, version_of}
use Rattle.tp_journal.specs.Start.{RefusesStart}
use Rattle.tp_journal.specs.Told.{LeavesOnly, LeavesNow}
use Rattle.tp_shared_log.specs.Images.{Leaves, StandsForFirst}
use Rattle.tp_log_tools.specs.Readings.{IsFile, as_placed}
use Rattle.tp_log_tools.proofs.Opened.{starts_open}
use Rattle.tp_log_tools.proofs.Shortened.{records_placed}
use Rattle.tp_site.specs.declared.faults.StartFault.{StartFault}
use Rattle.tp_site.specs.Site.{Starts}
use Rattle.tp_drive.specs.declared.driven.DriveFault.{DriveFault}
use Rattle.tp_drive.specs.declared.stop.Stop.{Stop}
use Rattle.tp_drive.specs.Begun.{booted, recs}
use Rattle.tp_drive.specs.Drives.{Fails, HasBootText, HasStarted, IsDriven, IsPartDriven, LeavesBooted, RunsShort, opening_on}
use Rattle.tp_drive.proofs.Begins.{recs-placed}
use Rattle.tp_serve.specs.Progress.{is_wide, journal_of}
use Rattle.tp_serve.specs.Starting.{NotStarted, unread_by, unstarted_by}
use Rattle.tp_serve.proofs.Holding.{goes_on, wide_so}
use Rattle.tp_serve.proofs.Runs.{size_one}
use Rattle.tp_serve.proofs.Starts.{HasOpened, boot_small, not_started}
use Rattle.tp_drive_tool.specs.Status.{driven_status, start_status, unread_status}
use Rattle.tp_drive_tool.specs.Driving.{BeginsOn, DrivesShort, HasDriven, HasPart, HaveTexts, IsDriveCause, IsMoment, LeavesLog, NotDriven}
use Rattle.tp_drive_tool.proofs.AsNode.{as_node, behind_size}

-- ---- the log that is left

-- the log on which a site of that opening began, with its boot or without
abbrev HasBegun : Opening → List ℕ → Type 0
HasBegun o file = StandsForEither (bodies_of (is_wide o.version) o.records) (bodies_of (is_wide o.version) (booted o)) file

abbrev HasFirst : Opening → List LogRec → List ℕ → Type 0
HasFirst o list file = StandsForFirst (length o.records + 1) (is_wide o.version) list file

-- the boot, and then the workers
moments : (o : Opening) (list : List LogRec) (s : Story) (mid told : Option Story) → LeavesOnly (HasBegun o) (Some (Synced s)) mid → LeavesOnly (HasFirst o list) mid told → LeavesOnly (IsMoment o list) (Some (Synced s)) told
moments o list s mid told first second =
    goes_on (HasBegun o) (HasFirst o list) (IsMoment o list) (Some (Synced s)) mid told (λ file x. inl x) (λ file x. inr x) first second

left_log : (o : Opening) (list : List LogRec) (shut : Option ℕ) (s : Story) (mid told : Option Story) → LeavesOnly (HasBegun o) (Some (Synced s)) mid
    → Leaves mid (length o.records + 1) (is_wide o.version) list shut told → HaveTexts o list → LeavesLog o list shut s told
left_log o list None s mid told first leaves texts =
    let left : Leaves (Some first.0) (length o.records + 1) (is_wide o.version) list None told =
    subst (λ (m : Option Story). Leaves m (length o.records + 1) (is_wide o.version) list None told) first.1 leaves in
    let since : LeavesOnly (HasFirst o list) (Some first.0) told = (left.now, left.tells, left.since) in (
      moments o list s mid told first (subst (λ (m : Option Story). LeavesOnly (HasFirst o list) m told) (sym first.1) since),
      subst (LeavesNow (λ file. StandsFor file (bodies_of (is_wide o.version) list))) (sym left.tells) left.last,
      texts,
    )
left_log o list (Some faults) s mid told first leaves texts =
    let left : Leaves (Some first.0) (length o.records + 1) (is_wide o.version) list (Some faults) told =
    subst (λ (m : Option Story). Leaves m (length o.records + 1) (is_wide o.version) list (Some faults) told) first.1 leaves in
    let since : LeavesOnly (HasFirst o list) (Some first.0) told = (left.now, left.tells, left.since) in (
      moments o list s mid told first (subst (λ (m : Option Story). LeavesOnly (HasFirst o list) m told) (sym first.1) since),
      subst (LeavesNow (HasFirst o list)) (sym left.tells) left.last,
      texts,
    )

-- ---- a log that is not opened

pub unread_so : (name : List ℕ) (workers : ℕ) (events : List Given) (s : Story) (new : Option Story) (fault : JournalFault) → NotStarted name s new (unread_by fault) → NotDriven name workers events s new (unread_status fault)
unread_so name workers events s new (JournalFault.Foreign at) x = x
unread_so name workers events s new (JournalFault.DiskFault n) x = inl x
unread_so name workers events s new JournalFault.NoMemory x = inl x

pub unread_cause : (old new : Option Story) (before after : ℕ) (fault : JournalFault) → RefusesStart record_body old new before after fault → IsDriveCause before after (unread_status fault)
unread_cause old new before after (JournalFault.Foreign at) x = tt
unread_cause old new before after (JournalFault.DiskFault n) x = x.2
unread_cause old new before after JournalFault.NoMemory x = tt

-- ---- a site that does not start

unstarted_so : (name : List ℕ) (workers : ℕ) (events : List Given) (s : Story) (new : Option Story) (fault : StartFault) → NotStarted name s new (unstarted_by fault) → NotDriven name workers events s new (start_status fault)
unstarted_so name workers events s new (StartFault.Foreign at) x = x
unstarted_so name workers events s new StartFault.BootsSpent x = inl x
unstarted_so name workers events s new (StartFault.Full size) x = inl x
unstarted_so name workers events s new (StartFault.DiskFault n) x = inl x
unstarted_so name workers events s new (StartFault.Shut n) x = inl x
unstarted_so name workers events s new StartFault.NoMemory x = inl x

module _ {D : Type 0} (faults : D → ℕ) (told : D → Option Story) (fuse : D → Option Fused) (disk : D) (j : Kept D) (has : HasOpened faults told disk j) (name : List ℕ) (workers : ℕ) (events : List Given) where
  abbrev st : Kept D → Standing
  st = journal_of faults told fuse

  abbrev o : Opening
  o = opening_on j name

  wide_is : j.wide ≡ is_wide (version_of j.wide)
  wide_is = wide_so j.wide (version_of j.wide) refl

  unstarted_cause : (fault : StartFault) (new : Kept D) → Starts st j name (Err (new, fault)) → IsDriveCause (faults disk) (faults new.disk) (start_status fault)
  unstarted_cause (StartFault.Foreign at) new x = tt
  unstarted_cause StartFault.BootsSpent new x = inl (refl, tt)
  unstarted_cause (StartFault.Full size) new x = inl (refl, tt)
  unstarted_cause (StartFault.DiskFault n) new x = omega (arith, has.counted, x.unforced.1)
  unstarted_cause (StartFault.Shut n) new x = absurd (let clash : None ≡ Some n = sym has.unshut ∙ x.unforced.1 in cc)
  unstarted_cause StartFault.NoMemory new x = tt

  pub drive_cause : (fault : DriveFault) (new : Kept D) → Fails st j name workers events new fault → IsDriveCause (faults disk) (faults new.disk) (driven_status fault)
  drive_cause (DriveFault.Start fault) new x = unstarted_cause fault new x
  drive_cause (DriveFault.LogDiffers place receipt kept) new x = absurd x
  drive_cause (DriveFault.DiskFault n) new x = omega (arith, has.counted, x.risen)
  drive_cause (DriveFault.Full size event) new x = inr refl
  drive_cause DriveFault.NoMemory new x = tt

  module _ (s : Story) (is : told disk ≡ Some s) (file : IsFile (seen s)) where
    begins : all_follow j.list ≡ true → BeginsOn name s o
    begins order = record {
      version = version_of j.wide;
      listed = as_placed (placed j.wide j.list);
      opens = (starts_open (told disk) (told j.disk) j.wide j.list j.gate has.starts has.texts order s is file).opens;
      is = ap (λ (l : List LogRec). let p : Opening = record { site = name; version = version_of j.wide; records = l } in p) (sym (records_placed j.wide (first_place j.wide) j.list));
    }

    kept_is : recs (placed j.wide j.list) ≡ j.list
    kept_is = recs-placed j.wide j.list

    begun : (new : Kept D) (b : LeavesBooted st j name (told new.disk) new) → LeavesOnly (HasBegun o) (Some (Synced s)) b.started.story
    begun new b =
        goes_on (λ c. StandsFor c (bodies_of j.wide j.list)) _ (HasBegun o) (Some (Synced s)) (told j.disk) b.started.story
        (λ c x. inl (subst (λ (w : Bool). StandsFor c (bodies_of w j.list)) wide_is x))
        (λ c x. subst (λ (w : Bool). StandsForEither (bodies_of w j.list) (bodies_of w (booted o)) c) wide_is (subst (λ (l : List LogRec). StandsForEither (bodies_of j.wide l) (bodies_of j.wide (l ++ LogRec.Boot (boot_of o) ∷ [])) c) kept_is x))
        (has.starts.2 s is).2 b.forced.moments

    leaves : (new : Kept D) → LeavesBooted st j name (told new.disk) new → AllByRecursion (HasText new.wide) new.list → LeavesLog o new.list new.shut s (told new.disk)
    leaves new b texts =
        left_log o new.list new.shut s b.started.story (told new.disk) (begun new b)
        (subst (λ (w : Bool). Leaves b.started.story (length o.records + 1) w new.list new.shut (told new.disk)) (b.wide ∙ wide_is) b.leaves)
        (subst (λ (w : Bool). AllByRecursion (HasText w) new.list) (b.wide ∙ wide_is) texts)

    -- the log with its boot is within its limit, and so is the log with all
    fits : (new : Kept D) (outs : List (List Output)) (receipts : List Receipt) → LeavesBooted st j name (told new.disk) new → IsDriven o workers events outs receipts new.wide new.list → size_of o.version (booted o ++ recs receipts) ≤ 268435456
    fits new outs receipts b d = go receipts refl
      where
        now : size_of o.version new.list ≡ size_of o.version (booted o ++ recs receipts)
        now = ap (size_of o.version) d.records

        wide : place_behind (bodies_of new.wide new.list) + 1 ≡ size_of o.version new.list
        wide = ap (λ (w : Bool). place_behind (bodies_of w new.list) + 1) b.wide ∙ behind_size j.wide new.list

        first : size_of o.version (booted o) ≤ 268435456
        first = omega (arith, b.forced.room, has.starts.3, behind_size j.wide j.list, size_one o.version j.list (LogRec.Boot (boot_of o)))

        go : (rs : List Receipt) → receipts ≡ rs → size_of o.version (booted o ++ recs receipts) ≤ 268435456
        go [] none =
            let same : size_of o.version (booted o ++ recs receipts) ≡ size_of o.version (booted o) = ap (λ (l : List Receipt). size_of o.version (booted o ++ recs l)) none ∙ ap (size_of o.version) (append-nil (booted o)) in
            omega (arith, first, same)
        go (r ∷ rs) some =
            let under : place_behind (bodies_of new.wide new.list) < most_bytes = d.fits (omega (arith, ap length some)) in
            omega (arith, under, wide, now)

    -- the boot's number is within its range
    boot_left : (new : Kept D) → LeavesBooted st j name (told new.disk) new → boot_of o ≡ suc greatest → ⊥
    boot_left new b = boot_small j.wide (boot_of o) b.text

    pub driven : (new : Kept D) (outs : List (List Output)) (receipts : List Receipt) → 0 < workers → LeavesBooted st j name (told new.disk) new → new.shut ≡ None → IsDriven o workers events outs receipts new.wide new.list
        → AllByRecursion (HasText new.wide) new.list → HasDriven name workers events s (told new.disk) outs
    driven new outs receipts some b unshut d texts = record {
      o = o;
      begins = begins b.order;
      one_thread = d.one_thread;
      more = recs receipts;
      woven = d.woven;
      leaves = subst (λ (l : List LogRec). LeavesLog o l None s (told new.disk)) d.records (subst (λ (shut : Option ℕ). LeavesLog o new.list shut s (told new.disk)) unshut (leaves new b texts));
      as_node = as_node o workers events outs (recs receipts) some (boot_left new b) d.one_thread d.woven (fits new outs receipts b d);
    }

    -- lanes stopped
    parted : (new : Kept D) (stops : List (Option Stop)) → LeavesBooted st j name (told new.disk) new → AllByRecursion (HasText new.wide) new.list → IsPartDriven o workers events stops new.list → HasPart name workers events s (told new.disk) new.shut stops new.list
    parted new stops b texts part = record { o = o; begins = begins b.order; part = part; leaves = leaves new b texts }

    short : (new : Kept D) → LeavesBooted st j name (told new.disk) new → AllByRecursion (HasText new.wide) new.list → RunsShort o workers events new.list → DrivesShort name workers events s (told new.disk)
    short new b texts (stops, part) = inr (new.shut, stops, new.list, parted new stops b texts part)

    pub not_driven : (fault : DriveFault) (new : Kept D) → Fails st j name workers events new fault → HasBootText st j name new fault → (HasStarted fault → LeavesBooted st j name (told new.disk) new)
        → new.gate ≡ place_behind (bodies_of new.wide new.list) → AllByRecursion (HasText new.wide) new.list → NotDriven name workers events s (told new.disk) (driven_status fault)
    not_driven (DriveFault.Start fault) new x text started gate texts =
        unstarted_so name workers events s (told new.disk) fault (not_started faults told fuse disk j has name s is file fault new x text)
    not_driven (DriveFault.LogDiffers place receipt kept) new x text started gate texts = absurd x
    not_driven (DriveFault.DiskFault n) new x text started gate texts =
        let b = started tt in
        inr (record {
          stops = x.stops;
          list = new.list;
          part = record {
            o = o;
            begins = begins b.order;
            part = x.part;
            leaves = subst (λ (shut : Option ℕ). LeavesLog o new.list shut s (told new.disk)) x.shut (leaves new b texts);
          };
        })
    not_driven (DriveFault.Full size event) new x text started gate texts =
        let b = started tt in
        let place : new.gate ≡ place_behind (bodies_of (is_wide (version_of j.wide)) new.list) = gate ∙ ap (λ (w : Bool). place_behind (bodies_of w new.list)) (b.wide ∙ wide_is) in
        inr (
          refl,
          record {
            stops = x.stops;
            list = new.list;
            part = record {
              o = o;
              begins = begins b.order;
              part = x.part;
              leaves = subst (λ (shut : Option ℕ). LeavesLog o new.list shut s (told new.disk)) x.unshut (leaves new b texts);
            };
            first = x.first;
            no_room = omega (arith, x.too_long, x.no_room, place);
          },
        )
    not_driven DriveFault.NoMemory new x text started gate texts = short new (started tt) texts x
