-- A disk that stops at one of its changing calls, as its callers see it, and what its changing calls do.
use Rattle.std.specs.Prelude.{◌≡◌, ◌⊎◌, ◌+◌, ◌-◌, ◌^◌, ◌==◌, ◌≤◌, ◌<◌, ℕ, min, Bool, true, false, Option, Some, None, List, []}
use Rattle.tp_outside.specs.Faults.{one_more, HasRisen}
use Rattle.tp_outside.specs.Fill.{filled}
use Rattle.tp_outside.specs.Story.{seen, IsSettled}
use Rattle.tp_outside.specs.MemDisk.{Recorded, recorded}
use Rattle.tp_outside.specs.declared.mem_disk.Attempt.{Attempt}
use Rattle.tp_outside.specs.declared.mem_disk.Attempt.TheVariants.{Done, Failed, Starved}
use Rattle.tp_outside.specs.declared.fuse_disk.FuseDisk.{FuseDisk}

pub record Fused : Type 0 where
  -- the disk below
  pub disk : Recorded
  -- the number of the changing call to stop in, from 1
  pub last : ℕ
  -- what an image has in each range that is not yet synced
  pub fill : ℕ
  -- how many changing calls there were that found memory, up to the one to stop in
  pub calls : ℕ
  -- has that call come?
  pub stopped : Bool
  -- how many calls the stop refused
  pub refused : ℕ

abbrev pub fused : FuseDisk → Fused
fused f = record { disk = recorded f.inner; last = f.last; fill = f.fill; calls = f.calls; stopped = f.stopped; refused = f.refused }

-- the calls that failed below and those that the stop refused
abbrev pub fault_count_of : Fused → ℕ
fault_count_of f = min (f.disk.faults + f.refused) (2 ^ 64 - 1)

-- a call that the stop refuses
abbrev pub refuse : Fused → Fused
refuse f = record f { refused = one_more f.refused }

-- one more changing call, after which the disk below is this; it may be the one to stop in
abbrev pub step : Fused → Recorded → Fused
step f disk = record f { disk = disk; calls = one_more f.calls; stopped = one_more f.calls == f.last }

-- A changing call is known by what it does to the disk below, by what comes of it there: its effect.

-- a call that is done: the fuse has not stopped, and does not stop in it
pub record Passes (effect : Recorded → Attempt → Recorded → Type 0) (old new : Fused) : Type 0 where
  pub before : old.stopped ≡ false
  pub after : new.stopped ≡ false
  pub steps : new ≡ step old new.disk
  pub done : effect old.disk Done new.disk

-- the call to stop in, with what it leaves of the disk below
pub record StopsIn (left : Recorded → Recorded → Type 0) (old new : Fused) : Type 0 where
  pub before : old.stopped ≡ false
  pub after : new.stopped ≡ true
  pub steps : new ≡ refuse (step old new.disk)
  pub leaves : left old.disk new.disk

-- a call that the disk below was listed to fail
pub record FailsBelow (effect : Recorded → Attempt → Recorded → Type 0) (old new : Fused) : Type 0 where
  pub before : old.stopped ≡ false
  pub after : new.stopped ≡ false
  pub steps : new ≡ step old new.disk
  pub failed : effect old.disk Failed new.disk

-- a call for which there was no memory, and which does not count
pub record StarvesBelow (effect : Recorded → Attempt → Recorded → Type 0) (old new : Fused) : Type 0 where
  pub before : old.stopped ≡ false
  pub same : new ≡ record old { disk = new.disk }
  pub starved : effect old.disk Starved new.disk

-- a call after the stop
pub record IsRefused (old new : Fused) : Type 0 where
  pub before : old.stopped ≡ true
  pub same : new ≡ refuse old

-- a changing call that fails
abbrev pub FuseFails : (Recorded → Attempt → Recorded → Type 0) → (Recorded → Recorded → Type 0) → Fused → Fused → Type 0
FuseFails effect left old new = IsRefused old new ⊎ (StopsIn left old new ⊎ (FailsBelow effect old new ⊎ StarvesBelow effect old new))

-- a write and a cut are made also in the call to stop in
abbrev pub IsMade : (Recorded → Attempt → Recorded → Type 0) → Recorded → Recorded → Type 0
IsMade effect old new = effect old Done new ⊎ effect old Failed new

-- ---- a disk that may have a fuse, as who knows no more of it than the trait sees it: it goes on having one, or none

-- where there is one, this holds of it before and after
abbrev pub OnFuse : (Fused → Fused → Type 0) → Option Fused → Option Fused → Type 0
OnFuse R None new = new ≡ None
OnFuse R (Some f) None = ⊥
OnFuse R (Some f) (Some g) = R f g

-- ---- a run of changing calls, over a fuse that has not stopped and a disk below that fails at no listed call

-- before and after it all of this file is on the disk
pub record IsReady (f : Fused) (file : List ℕ) : Type 0 where
  pub running : f.stopped ≡ false
  pub sound : f.disk.fails ≡ []
  pub settled : IsSettled f.disk.story
  pub sees : seen f.disk.story ≡ file

-- so many calls were done, and the one to stop in was none of them
pub record GoesOn (n : ℕ) (f g : Fused) (file : List ℕ) : Type 0 where
  pub ready : IsReady g file
  pub last : g.last ≡ f.last
  pub fill : g.fill ≡ f.fill
  pub calls : g.calls ≡ f.calls + n
  pub starved : g.disk.starved ≡ f.disk.starved
  pub passed : (f.last ≤ f.calls) ⊎ (f.calls + n < f.last)

-- it stopped, in one of the calls after the first so many and up to so many, and a crash that leaves the fill in each range
-- that was written since the last sync leaves this image
pub record StopsAfter (low high : ℕ) (f g : Fused) (left : List ℕ) : Type 0 where
  pub stopped : g.stopped ≡ true
  pub from : f.calls + low < f.last
  pub to : f.last ≤ f.calls + high
  pub fill : g.fill ≡ f.fill
  pub image : filled g.fill g.disk.story ≡ left

-- it has not stopped: there was no memory for a call
pub record Starves (f g : Fused) : Type 0 where
  pub running : g.stopped ≡ false
  pub starved : HasRisen f.disk.starved g.disk.starved
