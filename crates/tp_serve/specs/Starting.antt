-- A site that is started on the log of a disk, or why there is none.
use Rattle.std.specs.Prelude.{ℕ, suc, ◌≡◌, ◌⊎◌, true, Option, Some, List, []}
use Rattle.std.specs.Option.{option_map}
use Rattle.tp_outside.specs.Story.{Story, Synced, seen}
use Rattle.tp_logrec.specs.declared.record.LogRec.{LogRec}
use Rattle.tp_logrec.specs.declared.record.LogVersion.{LogVersion}
use Rattle.tp_logrec.specs.LogText.{Placed, IsLog}
use Rattle.tp_model.specs.declared.verdict.What.{What}
use Rattle.tp_model.specs.Links.{greatest}
use Rattle.tp_model.specs.LogCommands.{Has, Is_foreign, opened, start_leaves}
use Rattle.tp_logrec.specs.LogText.{recs}
use Rattle.tp_model.specs.NodeRun.{Opening, boot_of}
use Rattle.tp_model.specs.NodeTranscript.{is_past_limit}
use Rattle.tp_journal.specs.declared.faults.StartFault.{StartFault as JournalFault}
use Rattle.tp_journal.specs.Keeping.{Standing}
use Rattle.tp_journal.specs.Told.{LeavesOnly}
use Rattle.tp_streams.specs.declared.stop.Stop.{Stop}
use Rattle.tp_streams.specs.Stops.{IsFaultOf}
use Rattle.tp_log_tools.specs.Readings.{IsFile}
use Rattle.tp_log_tools.specs.Opening.{ReadsAs, HoldsThroughout}
use Rattle.tp_site.specs.declared.faults.StartFault.{StartFault}
use Rattle.tp_site.specs.Site.{Site}
use Rattle.tp_serve.specs.Images.{IsNodeImage}
use Rattle.tp_serve.specs.Progress.{IsServing}

-- the site's name, and the log that it starts on
abbrev pub opening : List ℕ → LogVersion → List Placed → Opening
opening name ver listed = record { site = name; version = ver; records = recs listed }

-- ---- what the causes mean for the program

abbrev pub unread_by : JournalFault → Stop
unread_by (JournalFault.Foreign at) = Stop.Foreign at
unread_by (JournalFault.DiskFault faults) = Stop.DiskFault faults
unread_by JournalFault.NoMemory = Stop.NoMemory

abbrev pub unstarted_by : StartFault → Stop
unstarted_by (StartFault.Foreign at) = Stop.Foreign at
unstarted_by StartFault.BootsSpent = Stop.Limit What.Boots 0
unstarted_by (StartFault.Full size) = Stop.Limit What.Log 0
unstarted_by (StartFault.DiskFault faults) = Stop.DiskFault faults
unstarted_by (StartFault.Shut faults) = Stop.DiskFault faults
unstarted_by StartFault.NoMemory = Stop.NoMemory

-- ---- the start

-- It serves, and no event has come yet. It began on the records that the file has, in order.
pub record HasStarted {K : Type 0} (standing : K → Standing) (name : List ℕ) (told : Option Story) (faults : ℕ) (s : Site K) : Type 0 where
  pub version : LogVersion
  pub listed : List Placed
  pub serving : IsServing standing (opening name version listed) [] (option_map Synced told) faults s
  pub opens : (story : Story) → told ≡ Some story → IsFile (seen story) → opened (seen story) ≡ Has version listed

-- no boot number is left, or else the boot has no room
abbrev pub IsSpent : Opening → What → ℕ → Type 0
IsSpent o what at = (at ≡ 0) × ((what ≡ What.Boots) × (boot_of o ≡ suc greatest)) ⊎ (at ≡ 0)
    × ((what ≡ What.Log) × (boot_of o ≡ suc greatest → ⊥) × (is_past_limit o [] ≡ true))

-- and the log stays as it is
pub record IsLimitedBefore (name : List ℕ) (story : Story) (new : Option Story) (what : What) (at : ℕ) : Type 0 where
  pub version : LogVersion
  pub listed : List Placed
  pub opens : opened (seen story) ≡ Has version listed
  pub spent : IsSpent (opening name version listed) what at
  pub moments : LeavesOnly (λ c. IsLog c (recs listed)) (Some (Synced story)) new

-- the disk failed when the boot was forced
pub record FailsBefore (name : List ℕ) (story : Story) (new : Option Story) : Type 0 where
  pub version : LogVersion
  pub listed : List Placed
  pub opens : opened (seen story) ≡ Has version listed
  pub moments : LeavesOnly (IsNodeImage (opening name version listed) [] 0) (Some (Synced story)) new

-- the log was not opened, and stays as it is
abbrev pub IsUnopened : Story → Option Story → Type 0
IsUnopened story new = (rs : List LogRec) → IsLog (seen story) rs → HoldsThroughout (λ c. IsLog c rs) story new

-- why there is no site, where the disk tells its story
abbrev pub NotStarted : List ℕ → Story → Option Story → Stop → Type 0
NotStarted name story new (Stop.BadInput at why) = ⊥
NotStarted name story new (Stop.Limit what at) = IsLimitedBefore name story new what at
NotStarted name story new (Stop.Foreign at) = (opened (seen story) ≡ Is_foreign at) × ReadsAs new (start_leaves (seen story))
NotStarted name story new (Stop.ReadFault faults) = ⊥
NotStarted name story new (Stop.WriteFault faults) = ⊥
NotStarted name story new (Stop.DiskFault faults) = IsUnopened story new ⊎ FailsBefore name story new
NotStarted name story new Stop.NoMemory = IsUnopened story new

-- what may be spent before every frame
abbrev pub IsOfStart : What → Type 0
IsOfStart What.Schedule = ⊥
IsOfStart What.Sites = ⊥
IsOfStart What.Nodes = ⊥
IsOfStart What.Frames = ⊥
IsOfStart What.Answers = ⊥
IsOfStart What.Events = ⊥
IsOfStart What.Log = Unit {0}
IsOfStart What.Boots = Unit {0}

-- by the disk's counts before and after
abbrev pub IsStartStop : ℕ → ℕ → Stop → Type 0
IsStartStop old new (Stop.BadInput at why) = ⊥
IsStartStop old new (Stop.Limit what at) = (at ≡ 0) × IsOfStart what
IsStartStop old new (Stop.Foreign at) = Unit {0}
IsStartStop old new (Stop.ReadFault faults) = ⊥
IsStartStop old new (Stop.WriteFault faults) = ⊥
IsStartStop old new (Stop.DiskFault faults) = IsFaultOf faults old new
IsStartStop old new Stop.NoMemory = Unit {0}
