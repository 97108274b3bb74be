-- What a drive answers: of a site of some name on a log that it was given, with events that are dealt to lanes.
use Rattle.std.specs.Prelude.{ℕ, ◌≡◌, ◌≤◌, ◌<◌, ◌+◌, ◌++◌, Bool, true, List, length, Option, Some, None, Ok, Err, IfSome, is_some, slice_index_or}
use Rattle.tp_outside.specs.Faults.{HasRisen}
use Rattle.tp_outside.specs.Story.{Story}
use Rattle.tp_records.specs.declared.body.Event.{Event as Given}
use Rattle.tp_records.specs.declared.body.Output.{Output}
use Rattle.tp_logrec.specs.declared.record.LogRec.{LogRec}
use Rattle.tp_logrec.specs.Order.{all_follow}
use Rattle.tp_model.specs.NodeRun.{Opening, boot_of, node_run}
use Rattle.tp_model.specs.Lanes.{IsInterleaving}
use Rattle.tp_journal.specs.declared.receipts.Receipt.{Receipt}
use Rattle.tp_journal.specs.Journals.{Kept}
use Rattle.tp_journal.specs.Keeping.{Forces, Standing}
use Rattle.tp_journal.specs.Log.{most_bytes, place_behind}
use Rattle.tp_journal.specs.Records.{HasText, bodies_of, placed, version_of}
use Rattle.tp_shared_log.specs.Images.{Leaves}
use Rattle.tp_shared_log.specs.declared.unfit.Unfit.{Unfit}
use Rattle.tp_site.specs.Shaped.{HasTextIfStarted}
use Rattle.tp_site.specs.Site.{Site, Starts, opening_of}
use Rattle.tp_drive.specs.declared.driven.DriveFault.{DriveFault}
use Rattle.tp_drive.specs.declared.stop.Stop.{Stop}
use Rattle.tp_drive.specs.Begun.{recs, booted}
use Rattle.tp_drive.specs.Endings.{IsLeastStop}
use Rattle.tp_drive.specs.Runs.{IsForcedBy}
use Rattle.tp_drive.specs.Woven.{IsWoven}

-- the log that the site starts on
abbrev pub opening_on : {D : Type 0} → Kept D → List ℕ → Opening
opening_on j name = record { site = name; version = version_of j.wide; records = j.list }

-- The outputs are those of one thread, event by event. After the boot the log has one record for each receipt, in order and at its
-- place, and these records are an interleaving of the records of each lane's own events. With them the log is within its limit.
pub record IsDriven (o : Opening) (lanes : ℕ) (events : List Given) (outs : List (List Output)) (receipts : List Receipt) (wide : Bool)
    (list : List LogRec) : Type 0 where
  pub one_thread : outs ≡ (node_run o events).outputs
  pub records : list ≡ booted o ++ recs receipts
  pub places : placed wide list ≡ placed wide (booted o) ++ receipts
  pub woven : IsWoven o lanes events (recs receipts)
  pub fits : 0 < length receipts → place_behind (bodies_of wide list) < most_bytes

-- After the boot the log has an interleaving of prefixes of the lanes' records: of each lane those of its events before the one at
-- which it stopped, or all of them.
pub record IsPartDriven (o : Opening) (lanes : ℕ) (events : List Given) (stops : List (Option Stop)) (list : List LogRec) : Type 0 where
  pub more : List LogRec
  pub records : list ≡ booted o ++ more
  pub logs : List (List LogRec)
  pub counted : (length logs ≡ lanes) × (length stops ≡ lanes)
  pub each : (i : ℕ) (l : List LogRec) (s : Option Stop) → i < lanes → IsForcedBy o lanes i events (slice_index_or stops i s) (slice_index_or logs i l)
  pub woven : IsInterleaving more logs

-- the disk failed when records were settled
pub record IsShut {D : Type 0} (o : Opening) (lanes : ℕ) (events : List Given) (before faults now : ℕ) (j : Kept D) : Type 0 where
  pub shut : j.shut ≡ Some faults
  pub risen : HasRisen before now
  pub stops : List (Option Stop)
  pub part : IsPartDriven o lanes events stops j.list

-- some record had no room, and lanes stopped for it, at that event first: the log with one more record of the greatest length would
-- have at least so many bytes, which are too many
pub record IsFull {D : Type 0} (o : Opening) (lanes : ℕ) (events : List Given) (size event : ℕ) (j : Kept D) : Type 0 where
  pub unshut : j.shut ≡ None
  pub too_long : most_bytes < size
  pub no_room : size ≤ j.gate + 4 + 65535
  pub stops : List (Option Stop)
  pub first : IsLeastStop stops event
  pub part : IsPartDriven o lanes events stops j.list

-- memory ran out, and after the boot the log has what the lanes forced
abbrev pub RunsShort : Opening → ℕ → List Given → List LogRec → Type 0
RunsShort o lanes events list = (stops : List (Option Stop)) × IsPartDriven o lanes events stops list

-- why the workers did not do all events, once the site has started
abbrev pub Stops : {D : Type 0} → Opening → ℕ → List Given → ℕ → Kept D → ℕ → DriveFault → Type 0
Stops o lanes events before j now (DriveFault.Start fault) = ⊥
Stops o lanes events before j now (DriveFault.LogDiffers place receipt kept) = ⊥
Stops o lanes events before j now (DriveFault.DiskFault faults) = IsShut o lanes events before faults now j
Stops o lanes events before j now (DriveFault.Full size event) = IsFull o lanes events size event j
Stops o lanes events before j now DriveFault.NoMemory = RunsShort o lanes events j.list

-- why a drive failed: the site did not start, or lanes stopped
abbrev pub Fails : {D : Type 0} → (Kept D → Standing) → Kept D → List ℕ → ℕ → List Given → Kept D → DriveFault → Type 0
Fails standing old name lanes events new (DriveFault.Start fault) = Starts standing old name (Err (new, fault))
Fails standing old name lanes events new fault = Stops (opening_on old name) lanes events (standing old).faults new (standing new).faults fault

-- where the boot was refused, it has a text
abbrev pub HasBootText : {D : Type 0} → (Kept D → Standing) → Kept D → List ℕ → Kept D → DriveFault → Type 0
HasBootText {D} standing old name new (DriveFault.Start fault) = HasTextIfStarted {A = Site (Kept D)} (standing old).wide
    (LogRec.Boot (boot_of (opening_of (standing old) name))) (Err (new, fault))
HasBootText standing old name new (DriveFault.LogDiffers place receipt kept) = Unit {0}
HasBootText standing old name new (DriveFault.DiskFault faults) = Unit {0}
HasBootText standing old name new (DriveFault.Full size event) = Unit {0}
HasBootText standing old name new DriveFault.NoMemory = Unit {0}

-- the site has started
abbrev pub HasStarted : DriveFault → Type 0
HasStarted (DriveFault.Start fault) = ⊥
HasStarted (DriveFault.LogDiffers place receipt kept) = Unit {0}
HasStarted (DriveFault.DiskFault faults) = Unit {0}
HasStarted (DriveFault.Full size event) = Unit {0}
HasStarted DriveFault.NoMemory = Unit {0}

-- The records that the site started on follow one another, and the boot, which has a text, was forced. From then on a crash left the first of the records that the log has now, with the boot at least, and now it
-- leaves all of them; of a log that is shut the first of them.
pub record LeavesBooted {D : Type 0} (standing : Kept D → Standing) (old : Kept D) (name : List ℕ) (told : Option Story) (new : Kept D) : Type 0 where
  pub order : all_follow old.list ≡ true
  pub wide : new.wide ≡ old.wide
  pub receipt : Receipt
  pub started : Standing
  pub text : HasText (standing old).wide (LogRec.Boot (boot_of (opening_on old name)))
  pub forced : Forces (standing old) (LogRec.Boot (boot_of (opening_on old name))) (Ok receipt) started
  pub leaves : Leaves started.story (length old.list + 1) new.wide new.list new.shut told

-- the fault of lanes that stopped, by how the log was closed
abbrev pub IsCause : List (Option Stop) → Option ℕ → Option Unfit → DriveFault → Type 0
IsCause stops shut unfit (DriveFault.Start fault) = ⊥
IsCause stops shut unfit (DriveFault.LogDiffers place receipt kept) = ⊥
IsCause stops shut unfit (DriveFault.DiskFault faults) = shut ≡ Some faults
IsCause stops shut unfit (DriveFault.Full size event) = (shut ≡ None) × IsLeastStop stops event
    × IfSome unfit (λ u. (size ≡ u.size) × (u.body ≤ 65535)) × (is_some unfit ≡ true)
IsCause stops shut unfit DriveFault.NoMemory = Unit {0}
