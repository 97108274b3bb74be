-- How the start of a log ends.
use Rattle.std.specs.Prelude.{◌≡◌, ◌⊎◌, ◌<◌, ◌^◌, ℕ, Option, Some, None, List, [], ◌∷◌, ◌++◌}
use Rattle.std.proofs.Common.{inl, inr}
use Rattle.tp_outside.specs.Faults.{HasRisen}
use Rattle.tp_outside.specs.Story.{Story, Synced, seen}
use Rattle.tp_outside.specs.MemDisk.{DiskSyncs}
use Rattle.tp_outside.specs.FuseDisk.{Fused, Passes, OnFuse}
use Rattle.tp_journal.specs.Log.{head, blocks, StandsInFront, StandsFor, place_behind}
use Rattle.tp_journal.specs.Foreign.{Grammar, IsForeign}
use Rattle.tp_journal.specs.Told.{IsOn, LeavesOnly, RestsAt}
use Rattle.tp_journal.specs.declared.faults.StartFault.{StartFault}
use Rattle.tp_journal.specs.declared.faults.StartFault.TheVariants.{Foreign, DiskFault, NoMemory}

-- What a start leaves of a file, to the byte: the file itself, where its bodies stand at the front; else the head, the
-- bodies and their closing gate, and nothing after it.
abbrev pub started_bytes : (file : List ℕ) (bodies : List (List ℕ)) → StandsFor file bodies → List ℕ
started_bytes file bodies (inl in_front) = file
started_bytes file bodies (inr behind) = head 1 ++ (blocks bodies ++ behind.gate ∷ [])

-- The bodies are those that the bytes stood for, all of them are on the disk, and a crash at any moment from the first
-- sync on leaves bytes that stand for them. In the end the disk has what a start leaves of these bytes.
abbrev pub Starts : Option Story → Option Story → ℕ → List (List ℕ) → Type 0
Starts old new gate bodies =
    (gate < 2 ^ 63) × (old ≡ None → new ≡ None) ×
    ((s : Story) → old ≡ Some s → (stands : StandsFor (seen s) bodies) × RestsAt new gate bodies
    × LeavesOnly (λ c. StandsFor c bodies) (Some (Synced s)) new × IsOn new (started_bytes (seen s) bodies stands)) ×
    (gate ≡ place_behind bodies)

-- nothing but the sync was done, or not even that
abbrev pub StaysSynced : Option Story → Option Story → Type 0
StaysSynced old new = (s : Story) → old ≡ Some s → (new ≡ Some s) ⊎ (new ≡ Some (Synced s))

-- or bodies that stood further back were being written to the front
abbrev pub StaysReadable : Option Story → Option Story → Type 0
StaysReadable old new = (s : Story) → old ≡ Some s
    → (new ≡ Some s) ⊎ (new ≡ Some (Synced s))
    ⊎ ((bodies : List (List ℕ)) × StandsFor (seen s) bodies × LeavesOnly (λ c. StandsFor c bodies) (Some (Synced s)) new)

abbrev pub RefusesStart : Grammar → Option Story → Option Story → ℕ → ℕ → StartFault → Type 0
RefusesStart accepts old new before after (Foreign at) = StaysSynced old new × ((s : Story) → old ≡ Some s → IsForeign accepts (seen s) at)
RefusesStart accepts old new before after (DiskFault faults) = StaysReadable old new × (faults ≡ after) × HasRisen before after
RefusesStart accepts old new before after NoMemory = StaysSynced old new

-- over a log that stands at the front a start makes one changing call, the sync
abbrev pub SyncsAlone : Option Story → Option Fused → Option Fused → Type 0
SyncsAlone told old new = (s : Story) (bodies : List (List ℕ)) → told ≡ Some s → StandsInFront (seen s) bodies → OnFuse (Passes DiskSyncs) old new
