-- What the calls answer by which a store is read, body by body.
use Rattle.std.specs.Prelude.{ℕ, ◌≡◌, Bool, true, false, Option, Some, None, List}
use Rattle.tp_names.specs.declared.identifiers.Aaid.{Aaid}
use Rattle.tp_names.specs.Same.{is_aaid}
use Rattle.tp_journal.specs.declared.faults.StartFault.{StartFault}
use Rattle.tp_journal.specs.declared.faults.StartFault.TheVariants.{Foreign, DiskFault, NoMemory}
use Rattle.tp_bound.specs.declared.store.Pending.{Pending}
use Rattle.tp_bound.specs.declared.store.Store.{Store}
use Rattle.tp_bound.specs.Stores.{opened, Breaks}

-- the answer to one more body, which leads to the store told; none where it may not stand there
abbrev pub Takes : Store → Option Store → Store → Bool → Type 0
Takes old None new took = (took ≡ false) × (new ≡ old)
Takes old (Some s) new took = (took ≡ true) × (new ≡ s)

-- the undecided Bind of that transaction, which is so no longer
abbrev pub Decides : Aaid → Store → Store → Option Pending → Type 0
Decides aaid old new None = ((p : Pending) → old.undecided ≡ Some p → is_aaid p.aaid aaid ≡ false) × (new ≡ old)
Decides aaid old new (Some p) = (old.undecided ≡ Some p) × (is_aaid p.aaid aaid ≡ true) × (new ≡ record { content = old.content; undecided = None })

-- why bodies could not be read as a store
abbrev pub RefusesRead : List (List ℕ) → StartFault → Type 0
RefusesRead bodies (Foreign at) = opened bodies ≡ Breaks at
RefusesRead bodies (DiskFault faults) = ⊥
RefusesRead bodies NoMemory = Unit {0}
