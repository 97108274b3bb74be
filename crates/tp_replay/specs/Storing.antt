-- The store that the program's third member is: where its disk is empty it gets a log of no bodies first. When a store opens, and to what,
-- is said by tp_bound.
use Rattle.std.specs.Prelude.{ℕ, ◌≡◌, Option, Some, None, [], ◌∷◌, ◌++◌}
use Rattle.tp_outside.specs.Faults.{HasRisen}
use Rattle.tp_outside.specs.Story.{Story, seen}
use Rattle.tp_journal.specs.Log.{head}
use Rattle.tp_journal.specs.Told.{IsOn}
use Rattle.tp_journal.specs.declared.faults.StartFault.{StartFault}
use Rattle.tp_journal.specs.declared.faults.StartFault.TheVariants.{Foreign, DiskFault, NoMemory}
use Rattle.tp_bound.specs.Bounds.{Standing, Opens, RefusesOpen}
use Rattle.tp_replay.specs.declared.status.Status.{Status}

-- a disk that was empty holds a log of no bodies, and any other is as it was
pub record IsMade (told story : Option Story) : Type 0 where
  pub untold : told ≡ None → story ≡ None
  pub made : (s : Story) → told ≡ Some s → seen s ≡ [] → IsOn story (head 1 ++ 0 ∷ [])
  pub kept : (s : Story) → told ≡ Some s → (seen s ≡ [] → ⊥) → story ≡ told

-- the store was opened on what the disk then had
abbrev pub OpensAt : {D : Type 0} → Option Story → Option Story → ℕ → Standing D → Type 0
OpensAt told story node b = (made : Option Story) × IsMade told made × Opens made story node b

-- or not: the bytes that the disk then had are no store, the disk failed, or memory ran out
abbrev pub RefusesStore : Option Story → Option Story → ℕ → ℕ → StartFault → Type 0
RefusesStore told story before after (Foreign at) = (made : Option Story) × IsMade told made × RefusesOpen made story before after (Foreign at)
RefusesStore told story before after (DiskFault faults) = (faults ≡ after) × HasRisen before after
RefusesStore told story before after NoMemory = (made : Option Story) × IsMade told made × RefusesOpen made story before after NoMemory

-- how a run ends then
abbrev pub status_at : StartFault → Status
status_at (Foreign at) = Status.Foreign at
status_at (DiskFault faults) = Status.DiskFault faults
status_at NoMemory = Status.NoMemory
