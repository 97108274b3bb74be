-- A started journal as its callers see it.
use Rattle.std.specs.Prelude.{ℕ, ◌≡◌, ◌≤◌, ◌<◌, ◌+◌, Bool, true, Option, Some, None, List, []}
use Rattle.tp_outside.specs.Faults.{HasRisen}
use Rattle.tp_outside.specs.Story.{Story}
use Rattle.tp_outside.specs.FuseDisk.{Fused}
use Rattle.tp_logrec.specs.declared.record.LogRec.{LogRec}
use Rattle.tp_journal.specs.declared.faults.CompactFault.{CompactFault}
use Rattle.tp_journal.specs.declared.faults.CompactFault.TheVariants as compact
use Rattle.tp_journal.specs.declared.faults.ForceFault.{ForceFault}
use Rattle.tp_journal.specs.declared.faults.ForceFault.TheVariants as force
use Rattle.tp_logrec.specs.Order.{brief}
use Rattle.tp_journal.specs.Log.{place_behind, most_bytes}
use Rattle.tp_journal.specs.Records.{wide_of, recs_of, placed, bodies_of}
use Rattle.tp_journal.specs.Started.{Started}
use Rattle.tp_journal.specs.Keeping.{Standing, Numbers, longer}

pub record Kept (D : Type 0) : Type 0 where
  pub disk : D
  -- is the log of version 2?
  pub wide : Bool
  -- its records, oldest first
  pub list : List LogRec
  -- the place of the closing gate
  pub gate : ℕ
  -- the count of faults with which it was shut
  pub shut : Option ℕ

-- what stands in the log
abbrev pub bodies_in : {D : Type 0} → Kept D → List (List ℕ)
bodies_in j = bodies_of j.wide j.list

-- a started log whose bodies are the texts of records
abbrev pub kept_of : {D : Type 0} → Started D (List (List ℕ)) → Kept D
kept_of l = record { disk = l.disk; wide = wide_of l.shelf; list = recs_of l.shelf; gate = l.gate; shut = l.shut }

-- a journal tells the whole list and its length, and all of it is its own; its disk has counted so many faults, and tells
-- this story and this fuse
abbrev pub standing_of : {D : Type 0} → Kept D → ℕ → Option Story → Option Fused → Standing
standing_of j faults story fuse = record {
  told = placed j.wide j.list;
  kept = placed j.wide j.list;
  length_told = Some (j.gate + 1);
  shut = j.shut;
  faults = faults;
  story = story;
  fuse = fuse;
  wide = j.wide;
  lasting = Numbers [];
}

-- the causes of a refusal in order: shut, full, no memory, a fault of the disk
abbrev pub ComesInOrder : {D : Type 0} → Kept D → LogRec → ForceFault → Type 0
ComesInOrder old rec (force.Full size) = old.shut ≡ None
ComesInOrder old rec (force.DiskFault faults) = (old.shut ≡ None) × (longer (old.gate + 1) old.wide rec ≤ most_bytes)
ComesInOrder old rec (force.Shut faults) = Unit {0}
ComesInOrder old rec force.NoMemory = (old.shut ≡ None) × (longer (old.gate + 1) old.wide rec ≤ most_bytes)

-- the log has become of that version, with these records
pub record Becomes {D : Type 0} (version : Bool) (records : List LogRec) (old : Kept D) (before : ℕ) (new : Kept D) (after : ℕ) : Type 0 where
  pub open_before : old.shut ≡ None
  pub open_after : new.shut ≡ None
  pub wide : new.wide ≡ version
  pub list : new.list ≡ records
  pub gate : new.gate ≡ place_behind (bodies_of version records)
  pub faults : before ≤ after

-- it tells what it told
pub record Tells {D : Type 0} (old : Kept D) (before : ℕ) (new : Kept D) (after : ℕ) : Type 0 where
  pub wide : new.wide ≡ old.wide
  pub list : new.list ≡ old.list
  pub gate : new.gate ≡ old.gate
  pub faults : before ≤ after

abbrev pub RefusesCompact : {D : Type 0} → Kept D → ℕ → Kept D → ℕ → CompactFault → Type 0
RefusesCompact old before new after (compact.DiskFault faults) = Tells old before new after × (old.shut ≡ None) × (new.shut ≡ Some faults)
    × (faults ≡ after) × HasRisen before after
RefusesCompact old before new after (compact.Shut faults) = Tells old before new after × (old.shut ≡ Some faults) × (new.shut ≡ Some faults)
RefusesCompact old before new after compact.NoMemory = Tells old before new after × (old.shut ≡ None) × (new.shut ≡ None)

-- how many bytes a log of these records has in that version, up to its closing gate and with it
abbrev pub size_of : Bool → List LogRec → ℕ
size_of version records = place_behind (bodies_of version records) + 1

-- Full comes exactly where the brief has no room as a log of version 2, and before a fault of the disk
abbrev pub RefusesMigrate : {D : Type 0} → Kept D → ℕ → Kept D → ℕ → ForceFault → Type 0
RefusesMigrate old before new after (force.Full size) = Tells old before new after × (old.shut ≡ None) × (new.shut ≡ None)
    × (size ≡ size_of true (brief old.list)) × (most_bytes < size)
RefusesMigrate old before new after (force.DiskFault faults) =
    Tells old before new after × (old.shut ≡ None) × (new.shut ≡ Some faults) × (faults ≡ after) × HasRisen before after
    × (size_of true (brief old.list) ≤ most_bytes)
RefusesMigrate old before new after (force.Shut faults) = Tells old before new after × (old.shut ≡ Some faults) × (new.shut ≡ Some faults)
RefusesMigrate old before new after force.NoMemory = Tells old before new after × (old.shut ≡ None) × (new.shut ≡ None)
