-- A journal that runs ahead of its disk: its first records are on the disk, and the others are noted until they are
-- settled, all of them at once.
use Rattle.std.specs.Prelude.{ℕ, ◌≡◌, ◌≤◌, ◌<◌, ◌^◌, ◌+◌, Option, None, Some, List, [], ◌∷◌, ◌++◌, length, take, drop}
use Rattle.std.specs.List.{AllByRecursion}
use Rattle.tp_outside.specs.Faults.{HasRisen}
use Rattle.tp_outside.specs.Story.{Story}
use Rattle.tp_journal.specs.declared.faults.ForceFault.{ForceFault}
use Rattle.tp_journal.specs.declared.faults.ForceFault.TheVariants.{Full, DiskFault, Shut, NoMemory}
use Rattle.tp_journal.specs.Log.{blocks, place_behind, StandsFor}
use Rattle.tp_journal.specs.Records.{HasText, texts, bodies_of}
use Rattle.tp_journal.specs.Started.{Started, IsKept}
use Rattle.tp_journal.specs.Told.{LeavesOnly, LeavesFront}
use Rattle.tp_journal.specs.Journals.{Kept, kept_of, bodies_in, standing_of, Tells}
use Rattle.tp_journal.specs.Keeping.{Standing, Rests}

pub record Gathered (D : Type 0) : Type 0 where
  -- the journal with all of its records, as it is once they are settled
  pub journal : Kept D
  -- how many of its records are on the disk
  pub settled : ℕ

-- the bodies on the disk, and those that are noted
abbrev pub bodies_settled : {D : Type 0} → Gathered D → List (List ℕ)
bodies_settled g = bodies_of g.journal.wide (take g.settled g.journal.list)

abbrev pub bodies_noted : {D : Type 0} → Gathered D → List (List ℕ)
bodies_noted g = texts g.journal.wide (drop g.settled g.journal.list)

-- nothing is noted, or a call of the disk has failed
abbrev pub IsSettled : {D : Type 0} → Gathered D → Type 0
IsSettled g = g.journal.shut ≡ None → g.settled ≡ length g.journal.list

abbrev pub gathered_of : {D : Type 0} → Started D (List (List ℕ)) → ℕ → Gathered D
gathered_of l settled = record { journal = kept_of l; settled = settled }

-- What is kept of a gathering's parts. The text that waits is that of the log from the closing gate on the disk on: the
-- noted bodies, each after an open gate, and a closed gate.
pub record IsGathered {D : Type 0} (told : Option Story) (g : Gathered D) (waits : List ℕ) : Type 0 where
  pub small : g.journal.gate < 2 ^ 63
  pub place : g.journal.gate ≡ place_behind (bodies_in g.journal)
  pub each : AllByRecursion (HasText g.journal.wide) g.journal.list
  pub within : g.settled ≤ length g.journal.list
  pub kept : IsKept told (place_behind (bodies_settled g)) (bodies_settled g) g.journal.shut
  pub text : waits ≡ blocks (bodies_noted g) ++ 0 ∷ []

-- why what is noted was not settled; it is not for want of room or memory
abbrev pub RefusesSettle : {D : Type 0} → Kept D → ℕ → Kept D → ℕ → ForceFault → Type 0
RefusesSettle old before new after (Full size) = ⊥
RefusesSettle old before new after (DiskFault faults) = (old.shut ≡ None) × (new.shut ≡ Some faults) × (faults ≡ after) × HasRisen before after
RefusesSettle old before new after (Shut faults) = (old.shut ≡ Some faults) × (new.shut ≡ Some faults)
RefusesSettle old before new after NoMemory = ⊥

-- Only what is after the closing gate on the disk changes.
pub record Stays {D : Type 0} (told : D → Option Story) (faults : D → ℕ) (old new : Gathered D) : Type 0 where
  pub tells : Tells old.journal (faults old.journal.disk) new.journal (faults new.journal.disk)
  pub settled : new.settled ≡ old.settled
  -- a crash at any moment of the call leaves the records that are on the disk
  pub moments : old.journal.shut ≡ None → LeavesOnly (λ c. StandsFor c (bodies_settled old)) (told old.journal.disk) (told new.journal.disk)
  -- and the bytes up to the closing gate, that one included, as they were
  pub front : LeavesFront (place_behind (bodies_settled old) + 1) (told old.journal.disk) (told new.journal.disk)
  -- a log that is shut is left alone
  pub idle : (faults : ℕ) → old.journal.shut ≡ Some faults → new ≡ old

-- a fault of the disk shuts the log
abbrev pub IsShutBy : {D : Type 0} → Kept D → ℕ → Kept D → ℕ → Type 0
IsShutBy old before new after = (old.shut ≡ None) × (new.shut ≡ Some after) × HasRisen before after

-- It tells what its journal tells, as if all of it were forced, but no story and no fuse: these are of the disk, which `force`
-- leaves as it is.
abbrev pub gathered_standing : {D : Type 0} → (D → ℕ) → (D → Option Story) → Gathered D → Standing
gathered_standing faults told g = record (standing_of g.journal (faults g.journal.disk) None None) { lasting = Rests (told g.journal.disk) g.settled }
