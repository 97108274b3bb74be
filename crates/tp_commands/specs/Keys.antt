-- What `keys` does with the store of keys and values on a disk: it ends as a call over the store answers, of which this file says what was
-- written and what is left of the disk. What the bodies of a log stand for is said by tp_bound.
use Rattle.std.specs.Prelude.{ℕ, ◌≡◌, ◌⊎◌, Option, Some, List, ◌++◌, Result, OnOk, IfErr}
use Rattle.tp_outside.specs.Story.{Story, seen}
use Rattle.tp_journal.specs.Gates.{any_body}
use Rattle.tp_journal.specs.Start.{Starts, StaysSynced, StaysReadable}
use Rattle.tp_journal.specs.Foreign.{IsForeign}
use Rattle.tp_streams.specs.declared.stop.Stop.{Stop}
use Rattle.tp_streams.specs.Written.{WritesPrefix}
use Rattle.tp_bound.specs.Bounds.{BreaksAt, IsStarted}
use Rattle.tp_bound.specs.declared.store.Store.{Store}
use Rattle.tp_bound.specs.Stores.{opened, Stands}
use Rattle.tp_keys.specs.Lines.{key_lines}
use Rattle.tp_replay.specs.declared.status.Status.{Status}
use Rattle.tp_replay.specs.Status.{ended}

-- The disk told a store's log, and holds it as a start leaves it.
pub record OpensStore (told story : Option Story) : Type 0 where
  pub bodies : List (List ℕ)
  pub gate : ℕ
  pub starts : Starts told story gate bodies
  pub store : Store
  pub stands : opened bodies ≡ Stands store

-- A line of each of its keys is written, in ascending order, after the bytes from before.
pub record Lists (told story : Option Story) (written output : Option (List ℕ)) : Type 0 where
  pub opens : OpensStore told story
  pub whole : (before : List ℕ) → written ≡ Some before → output ≡ Some (before ++ key_lines opens.store.content)

-- or a prefix of them
pub record ListsPart (told story : Option Story) (written output : Option (List ℕ)) : Type 0 where
  pub opens : OpensStore told story
  pub part : (before : List ℕ) → written ≡ Some before → WritesPrefix before (key_lines opens.store.content) output

-- The bytes are no log, and nothing but a sync was done; or a body of the log breaks the rules of a store.
abbrev pub HasNoStore : Option Story → Option Story → ℕ → Type 0
HasNoStore told story at = (StaysSynced told story × ((s : Story) → told ≡ Some s → IsForeign any_body (seen s) at)) ⊎ BreaksAt told story at

-- why not all was written
abbrev pub StopsKeys : Option Story → Option Story → Option (List ℕ) → Option (List ℕ) → Stop → Type 0
StopsKeys told story written output (Stop.BadInput at why) = ⊥
StopsKeys told story written output (Stop.Limit what at) = ⊥
StopsKeys told story written output (Stop.Foreign at) = HasNoStore told story at × (output ≡ written)
StopsKeys told story written output (Stop.ReadFault faults) = ⊥
StopsKeys told story written output (Stop.WriteFault faults) = ListsPart told story written output
StopsKeys told story written output (Stop.DiskFault faults) = StaysReadable told story × (output ≡ written)
StopsKeys told story written output Stop.NoMemory = ((StaysSynced told story ⊎ IsStarted told story) × (output ≡ written)) ⊎ ListsPart told story written output

pub record ListsKeys (status : Status) (told story : Option Story) (written output : Option (List ℕ)) : Type 0 where
  pub answer : Result (Unit {0}) Stop
  pub ends : status ≡ ended answer
  pub lists : OnOk answer (Lists told story written output)
  pub stopped : IfErr answer (StopsKeys told story written output)
