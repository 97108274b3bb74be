-- A started log as its callers see it, and what it keeps.
use Rattle.std.specs.Prelude.{◌≡◌, ◌⊎◌, ◌+◌, ◌^◌, ◌<◌, ◌≤◌, ℕ, Option, Some, None, List, [], ◌∷◌, ◌++◌, length}
use Rattle.tp_outside.specs.Faults.{HasRisen}
use Rattle.tp_outside.specs.Story.{Story}
use Rattle.tp_journal.specs.Log.{place_behind, most_bytes}
use Rattle.tp_journal.specs.Told.{RestsAt}
use Rattle.tp_journal.specs.declared.faults.ForceFault.{ForceFault}
use Rattle.tp_journal.specs.declared.faults.ForceFault.TheVariants.{Full, DiskFault, Shut, NoMemory}
use Rattle.tp_journal.specs.declared.faults.CompactFault.{CompactFault}
use Rattle.tp_journal.specs.declared.faults.CompactFault.TheVariants as compact

pub record Started (D S : Type 0) : Type 0 where
  pub disk : D
  pub shelf : S
  pub gate : ℕ
  pub shut : Option ℕ

-- Where the disk tells its story and no call has failed, the bytes stand for the bodies, and all of them are on the disk.
abbrev pub IsKept : Option Story → ℕ → List (List ℕ) → Option ℕ → Type 0
IsKept told gate bodies None = (told ≡ None) ⊎ RestsAt told gate bodies
IsKept told gate bodies (Some faults) = Unit {0}

-- what a started log keeps of its parts
pub record IsStarted (told : Option Story) (gate : ℕ) (bodies : List (List ℕ)) (shut : Option ℕ) : Type 0 where
  pub small : gate < 2 ^ 63
  pub kept : IsKept told gate bodies shut
  pub place : gate ≡ place_behind bodies

-- a log's parts that callers can tell apart
pub record Face : Type 0 where
  pub bodies : List (List ℕ)
  pub gate : ℕ
  pub shut : Option ℕ
  pub faults : ℕ

-- the bytes up to the closing gate after one more body
abbrev pub size_with : Face → List ℕ → ℕ
size_with old body = old.gate + 4 + length body

pub record Appends (old : Face) (body : List ℕ) (place : ℕ) (new : Face) : Type 0 where
  pub at_gate : place ≡ old.gate
  pub room : size_with old body ≤ most_bytes
  pub open_before : old.shut ≡ None
  pub open_after : new.shut ≡ None
  pub bodies : new.bodies ≡ old.bodies ++ body ∷ []
  pub gate : new.gate + 1 ≡ size_with old body
  pub faults : old.faults ≤ new.faults

pub record Stays (old new : Face) : Type 0 where
  pub bodies : new.bodies ≡ old.bodies
  pub gate : new.gate ≡ old.gate
  pub faults : old.faults ≤ new.faults

-- Full comes exactly where the body has no room, and before out of memory and a fault of the disk
abbrev pub RefusesAppend : Face → List ℕ → Face → ForceFault → Type 0
RefusesAppend old body new (Full size) = Stays old new × (old.shut ≡ None) × (new.shut ≡ None) × (size ≡ size_with old body) × (most_bytes < size)
RefusesAppend old body new (DiskFault faults) =
    Stays old new × (old.shut ≡ None) × (new.shut ≡ Some faults) × (faults ≡ new.faults) × HasRisen old.faults new.faults × (size_with old body ≤ most_bytes)
RefusesAppend old body new (Shut faults) = Stays old new × (old.shut ≡ Some faults) × (new.shut ≡ Some faults)
RefusesAppend old body new NoMemory = Stays old new × (old.shut ≡ None) × (new.shut ≡ None) × (size_with old body ≤ most_bytes)

-- other bodies stand in the place of the old
pub record Replaces (old : Face) (bodies : List (List ℕ)) (size : ℕ) (new : Face) : Type 0 where
  pub open_before : old.shut ≡ None
  pub open_after : new.shut ≡ None
  pub bodies_new : new.bodies ≡ bodies
  pub gate : new.gate ≡ 4 + size
  pub faults : old.faults ≤ new.faults

abbrev pub RefusesReplace : Face → Face → CompactFault → Type 0
RefusesReplace old new (compact.DiskFault faults) = Stays old new × (old.shut ≡ None) × (new.shut ≡ Some faults) × (faults ≡ new.faults)
    × HasRisen old.faults new.faults
RefusesReplace old new (compact.Shut faults) = Stays old new × (old.shut ≡ Some faults) × (new.shut ≡ Some faults)
RefusesReplace old new compact.NoMemory = Stays old new × (old.shut ≡ None) × (new.shut ≡ None)

-- an answer of `append` that leaves the disk alone
abbrev pub KeepsDisk : {D : Type 0} → D → D → ForceFault → Type 0
KeepsDisk old new (Full size) = new ≡ old
KeepsDisk old new (DiskFault faults) = Unit {0}
KeepsDisk old new (Shut faults) = new ≡ old
KeepsDisk old new NoMemory = new ≡ old

-- an answer of `replace` that leaves the disk alone
abbrev pub KeepsDiskInReplace : {D : Type 0} → D → D → CompactFault → Type 0
KeepsDiskInReplace old new (compact.DiskFault faults) = Unit {0}
KeepsDiskInReplace old new (compact.Shut faults) = new ≡ old
KeepsDiskInReplace old new compact.NoMemory = new ≡ old
