-- A disk in memory as its callers see it, and what its changing calls do, by what comes of them.
use Rattle.std.specs.Prelude.{◌≡◌, ℕ, Bool, true, false, Some, List, Contains}
use Rattle.tp_outside.specs.Faults.{one_more}
use Rattle.tp_outside.specs.Story.{Story, Made, Synced, seen}
use Rattle.tp_outside.specs.Disk.{Writes, Resizes}
use Rattle.tp_outside.specs.Changes.{story_after}
use Rattle.tp_outside.specs.declared.mem_disk.Attempt.{Attempt}
use Rattle.tp_outside.specs.declared.mem_disk.Attempt.TheVariants.{Done, Failed, Starved}
use Rattle.tp_outside.specs.declared.mem_disk.MemDisk.{MemDisk}

pub record Recorded : Type 0 where
  -- what it has been through
  pub story : Story
  -- the numbers of the changing calls that are to fail, from 1
  pub fails : List ℕ
  -- how many changing calls there were
  pub calls : ℕ
  -- how many of them failed
  pub faults : ℕ
  -- how many of those failed because there was no memory to grow
  pub starved : ℕ

abbrev pub story_of : MemDisk → Story
story_of m = story_after m.bytes.items m.changes

abbrev pub recorded : MemDisk → Recorded
recorded m = record { story = story_of m; fails = m.fails.items; calls = m.calls; faults = m.faults; starved = m.starved }

-- a disk with these contents and nothing done to it
abbrev pub fresh : List ℕ → List ℕ → Recorded
fresh bytes fails = record { story = Made bytes; fails = fails; calls = 0; faults = 0; starved = 0 }

-- what reads give counts as all on the disk
abbrev pub settled : Recorded → Recorded
settled r = record r { story = Made (seen r.story) }

-- what comes of a call that found memory or did not, and that was due to fail or not
abbrev pub outcome : Bool → Bool → Attempt
outcome false due = Starved
outcome true true = Failed
outcome true false = Done

-- one more changing call, by what came of it
abbrev pub counted : Attempt → Recorded → Recorded
counted Done r = record r { calls = one_more r.calls }
counted Failed r = record r { calls = one_more r.calls; faults = one_more r.faults }
counted Starved r = record r { calls = one_more r.calls; faults = one_more r.faults; starved = one_more r.starved }

-- a call that finds memory fails exactly where its number is listed
abbrev pub IsListed : Recorded → Attempt → Type 0
IsListed old Done = ¬ Contains old.fails (one_more old.calls)
IsListed old Failed = Contains old.fails (one_more old.calls)
IsListed old Starved = Unit {0}

-- the counts after one more changing call
pub record IsCounted (old : Recorded) (came : Attempt) (new : Recorded) : Type 0 where
  pub counts : new ≡ counted came (record old { story = new.story })
  pub listed : IsListed old came

-- a write that is listed to fail is made
abbrev pub WriteEnds : ℕ → List ℕ → Story → Attempt → Story → Type 0
WriteEnds at piece old Done new = Writes at piece (Some old) (Some new)
WriteEnds at piece old Failed new = Writes at piece (Some old) (Some new)
WriteEnds at piece old Starved new = new ≡ old

-- a cut that is listed to fail is made
abbrev pub CutEnds : ℕ → Story → Attempt → Story → Type 0
CutEnds len old Done new = Resizes len (Some old) (Some new)
CutEnds len old Failed new = Resizes len (Some old) (Some new)
CutEnds len old Starved new = new ≡ old

-- a sync that fails is not made
abbrev pub SyncEnds : Story → Attempt → Story → Type 0
SyncEnds old Done new = new ≡ Synced old
SyncEnds old Failed new = new ≡ old
SyncEnds old Starved new = new ≡ old

-- what a write, a cut and a sync do, by what comes of them
abbrev pub DiskWrites : ℕ → List ℕ → Recorded → Attempt → Recorded → Type 0
DiskWrites at piece old came new = WriteEnds at piece old.story came new.story × IsCounted old came new

abbrev pub DiskCuts : ℕ → Recorded → Attempt → Recorded → Type 0
DiskCuts len old came new = CutEnds len old.story came new.story × IsCounted old came new

abbrev pub DiskSyncs : Recorded → Attempt → Recorded → Type 0
DiskSyncs old came new = SyncEnds old.story came new.story × IsCounted old came new
