-- What a crash leaves of a log under its lock, where the disk tells its story. It names no lock and no share.
use Rattle.std.specs.Prelude.{ℕ, ◌≡◌, ◌≤◌, Bool, List, length, take, Option, Some, None}
use Rattle.tp_outside.specs.Story as story
use Rattle.tp_logrec.specs.declared.record.LogRec.{LogRec}
use Rattle.tp_journal.specs.Log.{StandsFor}
use Rattle.tp_journal.specs.Records.{bodies_of}

-- the file is a log of that version with the first of these records, at least so many
abbrev pub StandsForFirst : ℕ → Bool → List LogRec → List ℕ → Type 0
StandsForFirst least wide list file = (n : ℕ) × (least ≤ n) × (n ≤ length list) × StandsFor file (bodies_of wide (take n list))

-- The disk has gone on with its story. A crash now leaves only what has P; one at any moment since that story left a log
-- with the first of these records.
pub record IsLeft (first : story.Story) (least : ℕ) (wide : Bool) (list : List LogRec) (P : List ℕ → Type 0) (told : Option story.Story) : Type 0 where
  pub now : story.Story
  pub tells : told ≡ Some now
  pub last : story.Leaves P now
  pub since : story.LeavesSince (StandsForFirst least wide list) first now

-- A crash now leaves the records. Of a log that was shut it leaves the first of them, at least those that stood: the others
-- were noted, and the disk failed when they were settled.
abbrev pub Leaves : Option story.Story → ℕ → Bool → List LogRec → Option ℕ → Option story.Story → Type 0
Leaves None least wide list shut told = Unit {0}
Leaves (Some first) least wide list None told = IsLeft first least wide list (λ file. StandsFor file (bodies_of wide list)) told
Leaves (Some first) least wide list (Some faults) told = IsLeft first least wide list (StandsForFirst least wide list) told
