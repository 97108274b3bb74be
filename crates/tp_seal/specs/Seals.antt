-- What a seal says of a log, and the text of a seal.
use Rattle.std.specs.Prelude.{◌≡◌, ◌≤◌, ◌⊎◌, ◌++◌, ◌∷◌, [], ℕ, List, Option, IfSome, length, take}
use Rattle.sha2.specs.Sha256.{sha256}
use Rattle.tp_names.specs.Bytes.{long_bytes, site_bytes}
use Rattle.tp_outside.specs.Story.{Story, seen, IsSettled}
use Rattle.tp_outside.specs.Disk.{Syncs}
use Rattle.tp_seal.specs.declared.seal.Seal.{Seal}

-- the log begins with the bytes that were sealed
abbrev pub Holds : Seal → List ℕ → Type 0
Holds seal log = (seal.len ≤ length log) × (sha256 (take seal.len log) ≡ seal.sum)

-- the disk is as it was, or was synced
abbrev pub IsLeft : Option Story → Option Story → Type 0
IsLeft old new = (new ≡ old) ⊎ Syncs old new

-- The newer seal is one of the log on a disk that a crash leaves as it is, or is as it was.
abbrev pub IsSealed : Option Seal → Option Seal → Story → Type 0
IsSealed old new s = (IsSettled s × IfSome new (λ seal. Holds seal (seen s))) ⊎ (new ≡ old)

-- "TPSL", and the version 1
abbrev pub seal_head : List ℕ
seal_head = 84 ∷ 80 ∷ 83 ∷ 76 ∷ 1 ∷ []

-- the head, the number of the seal, the site, the length, and the sum
abbrev pub said : ℕ → Seal → List ℕ
said number seal = (((seal_head ++ long_bytes number) ++ site_bytes seal.name) ++ long_bytes seal.len) ++ seal.sum

-- and the sum of all that
abbrev pub seal_text : ℕ → Seal → List ℕ
seal_text number seal = said number seal ++ sha256 (said number seal)
