-- A seal and the images of a call.
use Rattle.std.proofs.Common.{◌≡◌, ◌≤◌, ℕ, Option, List, length, take, sym, ap, ◌∙◌, arith, length-take}
use Rattle.std.proofs.lemmas.List.{take-take}
use Rattle.tp_outside.specs.Story.{Story}
use Rattle.sha2.specs.Sha256.{sha256}
use Rattle.tp_journal.specs.Told.{IsOn, LeavesOnly, LeavesFront}
use Rattle.tp_journal.proofs.Steps.{leaves_weaker}
use Rattle.tp_seal.specs.Seals.{Holds}
use Rattle.tp_seal.specs.declared.seal.Seal.{Seal}

holds_on : (seal : Seal) (gate : ℕ) (log c : List ℕ) → Holds seal log → seal.len ≤ gate → gate ≤ length log → take gate c ≡ take gate log → Holds seal c
holds_on seal gate log c (within, sum) below long same =
    let front : take seal.len c ≡ take seal.len log =
    sym (take-take seal.len gate c below) ∙ ap (λ (l : List ℕ). take seal.len l) same ∙ take-take seal.len gate log below in (
      omega (arith, below, long, ap length same, length-take gate c, length-take gate log),
      ap sha256 front ∙ sum,
    )

pub keeps_its_seal : (seal : Seal) (gate : ℕ) (log : List ℕ) (old new : Option Story) → IsOn old log → Holds seal log → seal.len ≤ gate → gate ≤ length log → LeavesFront gate old new → LeavesOnly (Holds seal) old new
keeps_its_seal seal gate log old new on holds below long front =
    leaves_weaker (λ c. take gate c ≡ take gate log) (Holds seal) old new (λ c same. holds_on seal gate log c holds below long same) (front log on long)
