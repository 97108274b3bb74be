-- What holds of a log under its lock whenever the lock is free.
use Rattle.std.specs.Prelude.{ℕ, ◌≡◌, ◌+◌, ◌<◌, ◌≤◌, ◌||◌, Bool, true, List, length, take, drop, Option, Some, None, is_some}
use Rattle.tp_outside.specs.Faults.{HasRisen}
use Rattle.tp_outside.specs.Story.{Story}
use Rattle.tp_logrec.specs.declared.record.LogRec.{LogRec}
use Rattle.tp_journal.specs.declared.receipts.Receipt.{Receipt}
use Rattle.tp_journal.specs.Gathering.{Gathered}
use Rattle.tp_journal.specs.Log.{most_bytes}
use Rattle.tp_journal.specs.Records.{placed}
use Rattle.tp_journal.specs.Told.{LeavesOnly}
use Rattle.tp_shared_log.specs.Images.{StandsForFirst}
use Rattle.tp_shared_log.specs.declared.unfit.Unfit.{Unfit}

-- what the log was when it was put under the lock, and for how many shares
pub record Before : Type 0 where
  pub stood : List Receipt
  pub faults : ℕ
  pub wide : Bool
  pub shares : ℕ
  pub story : Option Story

abbrev pub stood_as : List Receipt → ℕ → Bool → ℕ → Option Story → Before
stood_as stood faults wide shares story = record { stood = stood; faults = faults; wide = wide; shares = shares; story = story }

-- the list begins with the records that stood, and has so many more
pub record Extends (stood : List Receipt) (more : ℕ) (list : List Receipt) : Type 0 where
  pub begins : take (length stood) list ≡ stood
  pub counted : length list ≡ length stood + more

-- what a log tells with all that is noted, and what of it came after the records that stood
abbrev pub told_by : {D : Type 0} → Gathered D → List Receipt
told_by g = placed g.journal.wide g.journal.list

abbrev pub added : {D : Type 0} → List Receipt → Gathered D → List Receipt
added stood g = drop (length stood) (told_by g)

-- a log that is shut has counted a fault since its count was this
abbrev pub ShutRose : ℕ → Option ℕ → ℕ → Type 0
ShutRose before None now = before ≤ now
ShutRose before (Some faults) now = HasRisen before now

-- After a closing gate at this place, a body of the length told would make the log at least so long as told, which is
-- too long.
abbrev pub HadNoRoom : ℕ → Option Unfit → Type 0
HadNoRoom gate None = Unit {0}
HadNoRoom gate (Some unfit) = (most_bytes < unfit.size) × (unfit.size ≤ gate + 4 + unfit.body)

-- From that story on a crash has left the first of the records, at least so many.
abbrev pub StillTells : Option Story → ℕ → Bool → List LogRec → Option Story → Type 0
StillTells None least wide list told = Unit {0}
StillTells (Some first) least wide list told = LeavesOnly (StandsForFirst least wide list) (Some first) told

-- What the lock's type keeps of a journal that notes, with its disk's count of faults and its story; of the totals of both
-- books, the records noted and the stakes that are left; and of the first record that had no room.
pub record IsKept {D : Type 0} (before : Before) (g : Gathered D) (faults : ℕ) (told : Option Story) (forced stakes : ℕ) (unfit : Option Unfit) : Type 0 where
  pub extends : Extends before.stood forced (placed g.journal.wide g.journal.list)
  pub settled : length before.stood ≤ g.settled
  pub same_version : g.journal.wide ≡ before.wide
  pub shut : ShutRose before.faults g.journal.shut faults
  pub images : StillTells before.story (length before.stood) g.journal.wide g.journal.list told
  pub within : stakes ≤ before.shares
  pub spent : stakes < before.shares → (is_some g.journal.shut || is_some unfit) ≡ true
  pub no_room : HadNoRoom g.journal.gate unfit
  -- with what was noted the log is within its limit
  pub fits : 0 < forced → g.journal.gate < most_bytes
