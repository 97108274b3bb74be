-- A started log whose bodies are no store.
use Rattle.std.proofs.Common.{◌≡◌, ℕ, inr, Option, List, subst, sym}
use Rattle.tp_outside.specs.Story.{Story}
use Rattle.tp_journal.specs.declared.faults.StartFault.{StartFault}
use Rattle.tp_journal.specs.declared.faults.StartFault.TheVariants.{Foreign, DiskFault, NoMemory}
use Rattle.tp_journal.specs.Start.{Starts}
use Rattle.tp_bound.specs.Bounds.{RefusesOpen}
use Rattle.tp_bound.specs.Taking.{RefusesRead}

by_bodies : (old new : Option Story) (before after gate : ℕ) (bodies : List (List ℕ)) (fault : StartFault) → Starts old new gate bodies → RefusesRead bodies fault
    → RefusesOpen old new before after fault
by_bodies old new before after gate bodies (Foreign at) starts breaks = inr (bodies, gate, starts, breaks)
by_bodies old new before after gate bodies (DiskFault faults) starts breaks = absurd breaks
by_bodies old new before after gate bodies NoMemory starts breaks = inr (bodies, gate, starts)

-- the disk that is handed back is the log's
pub refused : (old new back : Option Story) (before after gate : ℕ) (bodies : List (List ℕ)) (fault : StartFault) → back ≡ new → Starts old new gate bodies → RefusesRead bodies fault
    → RefusesOpen old back before after fault
refused old new back before after gate bodies fault same starts breaks =
    subst (λ (s : Option Story). RefusesOpen old s before after fault) (sym same) (by_bodies old new before after gate bodies fault starts breaks)
