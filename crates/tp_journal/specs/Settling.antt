-- What an answer of `settle` says, of a keeper that runs ahead of its disk: it notes records, and settles them all at once.
use Rattle.std.specs.Prelude.{ℕ, ◌≡◌, ◌≤◌, Option, Some, None, List, length, take, map, Result, Ok, Err}
use Rattle.tp_outside.specs.Faults.{HasRisen}
use Rattle.tp_outside.specs.Story.{Story}
use Rattle.tp_journal.specs.Log.{StandsFor, StandsForEither}
use Rattle.tp_journal.specs.Records.{bodies_of}
use Rattle.tp_journal.specs.Told.{LeavesOnly, LeavesNow}
use Rattle.tp_journal.specs.Keeping.{Standing, Lasting, Numbers, Rests, bodies_kept}
use Rattle.tp_journal.specs.declared.faults.ForceFault.{ForceFault}
use Rattle.tp_journal.specs.declared.faults.ForceFault.TheVariants as force

-- what the keeper's disk has been through, and how many of its own records are on the disk
abbrev pub story_on : Lasting → Option Story
story_on (Numbers numbers) = None
story_on (Rests story count) = story

abbrev pub count_on : Lasting → ℕ
count_on (Numbers numbers) = 0
count_on (Rests story count) = count

-- the bodies on the disk: those of the first of its records
abbrev pub bodies_on : Standing → List (List ℕ)
bodies_on s = bodies_of s.wide (take (count_on s.lasting) (map (λ r. r.rec) s.kept))

-- the keeper tells what it told, and a crash at any moment of the call leaves the records that were on the disk, or all
pub record KeepsAll (old new : Standing) : Type 0 where
  pub kept : new.kept ≡ old.kept
  pub told : new.told ≡ old.told
  pub length_told : new.length_told ≡ old.length_told
  pub faults : old.faults ≤ new.faults
  pub wide : new.wide ≡ old.wide
  pub open_before : old.shut ≡ None
  pub story : new.story ≡ old.story
  pub moments : LeavesOnly (StandsForEither (bodies_on old) (bodies_kept old)) (story_on old.lasting) (story_on new.lasting)

-- all of the keeper's records are on the disk, and a crash now leaves them
pub record HasAll (old new : Standing) : Type 0 where
  pub keeps : KeepsAll old new
  pub open_after : new.shut ≡ None
  pub all : count_on new.lasting ≡ length new.kept
  pub last : LeavesNow (λ file. StandsFor file (bodies_kept old)) (story_on new.lasting)

-- What an answer says. A fault of the disk shuts the keeper, and Shut comes exactly where it was shut before. Neither room nor
-- memory is wanted.
abbrev pub SettlesTo : Standing → Result (Unit {0}) ForceFault → Standing → Type 0
SettlesTo old (Ok u) new = HasAll old new
SettlesTo old (Err (force.Full size)) new = ⊥
SettlesTo old (Err (force.DiskFault n)) new = KeepsAll old new × HasRisen old.faults new.faults × (new.shut ≡ Some n) × (n ≡ new.faults)
SettlesTo old (Err (force.Shut n)) new = (old.shut ≡ Some n) × (new ≡ old)
SettlesTo old (Err force.NoMemory) new = ⊥
