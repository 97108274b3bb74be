-- A started store as its callers see it, and how its start ends.
use Rattle.std.specs.Prelude.{ℕ, ◌≡◌, ◌⊎◌, Option, Some, None, List}
use Rattle.tp_names.specs.declared.identifiers.Aaid.{Aaid}
use Rattle.tp_outside.specs.Story.{Story}
use Rattle.tp_journal.specs.declared.faults.StartFault.{StartFault}
use Rattle.tp_journal.specs.declared.faults.StartFault.TheVariants.{Foreign, DiskFault, NoMemory}
use Rattle.tp_journal.specs.Gates.{any_body}
use Rattle.tp_journal.specs.Start.{Starts, RefusesStart}
use Rattle.tp_bound.specs.declared.store.Store.{Store}
use Rattle.tp_bound.specs.Gathered.{Gathered}
use Rattle.tp_bound.specs.Stores.{opened, Stands, Breaks}

pub record Standing (D : Type 0) : Type 0 where
  -- the node that it is bound to
  pub node : ℕ
  pub disk : D
  -- what stands in its log
  pub bodies : List (List ℕ)
  -- the place of the closing gate
  pub gate : ℕ
  -- the count of faults with which its log was shut
  pub shut : Option ℕ
  pub store : Store
  -- the writes of the transaction that goes on
  pub current : Option Gathered

-- the transaction whose Bind is undecided
abbrev pub undecided_in : Store → Option Aaid
undecided_in s = elim s.undecided [ None ↦ None | Some p ↦ Some p.aaid ]

-- The bodies are those that the bytes stood for, all of them were taken, and the store is what they stand for.
pub record Opens {D : Type 0} (old new : Option Story) (node : ℕ) (b : Standing D) : Type 0 where
  pub bound_to : b.node ≡ node
  pub starts : Starts old new b.gate b.bodies
  pub stands : opened b.bodies ≡ Stands b.store
  pub shut : b.shut ≡ None
  pub none_current : b.current ≡ None

-- the log was started, and its bodies end at this place
abbrev pub BreaksAt : Option Story → Option Story → ℕ → Type 0
BreaksAt old new at = (bodies : List (List ℕ)) × (gate : ℕ) × Starts old new gate bodies × (opened bodies ≡ Breaks at)

abbrev pub IsStarted : Option Story → Option Story → Type 0
IsStarted old new = (bodies : List (List ℕ)) × (gate : ℕ) × Starts old new gate bodies

-- The bytes are no log of bodies; or a body of it breaks the rules, and at is the place of the first.
abbrev pub RefusesOpen : Option Story → Option Story → ℕ → ℕ → StartFault → Type 0
RefusesOpen old new before after (Foreign at) = RefusesStart any_body old new before after (Foreign at) ⊎ BreaksAt old new at
RefusesOpen old new before after (DiskFault faults) = RefusesStart any_body old new before after (DiskFault faults)
RefusesOpen old new before after NoMemory = RefusesStart any_body old new before after NoMemory ⊎ IsStarted old new
