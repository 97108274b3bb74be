-- What a force does over a disk with a fuse that has not stopped, and what a stop in it leaves. It makes four changing
-- calls: the record with its length and the next gate is written and synced, and then the gate is.
use Rattle.std.specs.Prelude.{◌≡◌, ◌⊎◌, ◌+◌, ◌<◌, ◌^◌, ℕ, Option, List, [], ◌∷◌, ◌++◌, length, take, drop}
use Rattle.tp_outside.specs.Disk.{IsWritten}
use Rattle.tp_outside.specs.Fill.{filled_range}
use Rattle.tp_outside.specs.FuseDisk.{Fused, OnFuse, IsReady, GoesOn, StopsAfter, Starves}
use Rattle.tp_journal.specs.Log.{counted}
use Rattle.tp_journal.specs.declared.faults.ForceFault.{ForceFault}
use Rattle.tp_journal.specs.declared.faults.ForceFault.TheVariants.{Full, DiskFault, Shut, NoMemory}

-- ---- a write and a sync

abbrev pub Stores : ℕ → List ℕ → Fused → Fused → Type 0
Stores at piece f g = (file : List ℕ) → IsReady f file → f.calls + 2 < 2 ^ 64 → (now : List ℕ) × IsWritten at piece file now × GoesOn 2 f g now

-- the range is the fill, or there was no memory
abbrev pub StopsStoring : ℕ → List ℕ → Fused → Fused → Type 0
StopsStoring at piece f g = (file : List ℕ) → IsReady f file → f.calls + 2 < 2 ^ 64
    → StopsAfter 0 2 f g (filled_range f.fill at (length piece) file) ⊎ Starves f g

-- ---- a piece after the closing gate at this place, and then the gate

-- the file with the piece, whose gate is not yet open, and with the gate open
abbrev pub with_piece : ℕ → List ℕ → List ℕ → List ℕ
with_piece gate piece file = take (gate + 1) file ++ (piece ++ drop (gate + 1 + length piece) file)

abbrev pub with_gate : ℕ → List ℕ → List ℕ → List ℕ
with_gate gate piece file = take gate file ++ (1 ∷ (piece ++ drop (gate + 1 + length piece) file))

abbrev pub Opens : ℕ → List ℕ → Fused → Fused → Type 0
Opens gate piece f g = (file : List ℕ) → IsReady f file → gate < length file → f.calls + 4 < 2 ^ 64 → GoesOn 4 f g (with_gate gate piece file)

-- a stop in the first two calls leaves the fill in place of the piece, one in the next two in place of the gate
abbrev pub StopsOpening : ℕ → List ℕ → Fused → Fused → Type 0
StopsOpening gate piece f g =
    (file : List ℕ) → IsReady f file → gate < length file → f.calls + 4 < 2 ^ 64
    → StopsAfter 0 2 f g (filled_range f.fill (gate + 1) (length piece) file)
    ⊎ StopsAfter 2 4 f g (filled_range f.fill gate 1 (with_piece gate piece file)) ⊎ Starves f g

-- ---- a body is forced

abbrev pub body_piece : List ℕ → List ℕ
body_piece body = counted body ++ 0 ∷ []

-- why it was not: only a fault of the disk says that the disk was called
abbrev pub StopsForcing : ℕ → List ℕ → Option Fused → Option Fused → ForceFault → Type 0
StopsForcing gate body old new (Full size) = new ≡ old
StopsForcing gate body old new (DiskFault faults) = OnFuse (StopsOpening gate (body_piece body)) old new
StopsForcing gate body old new (Shut faults) = new ≡ old
StopsForcing gate body old new NoMemory = new ≡ old
