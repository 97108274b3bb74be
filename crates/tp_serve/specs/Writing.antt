-- The answers that wait are written once the records of their events are forced: what comes of it, by what forcing them gave.
use Rattle.std.specs.Prelude.{ℕ, ◌≡◌, Option, Some, List, ◌++◌, Result, Ok, Err, OnOk, OnErr, IfErr}
use Rattle.tp_journal.specs.declared.faults.ForceFault.{ForceFault}
use Rattle.tp_journal.specs.declared.faults.ForceFault.TheVariants as force
use Rattle.tp_streams.specs.declared.stop.Stop.{Stop}
use Rattle.tp_streams.specs.Stops.{IsWriteStop}
use Rattle.tp_streams.specs.Written.{WritesPrefix}

-- what a fault of the log means for the program; forcing what is noted wants no room and no memory
abbrev pub unsettled_by : ForceFault → Stop
unsettled_by (force.Full size) = Stop.NoMemory
unsettled_by (force.DiskFault faults) = Stop.DiskFault faults
unsettled_by (force.Shut faults) = Stop.DiskFault faults
unsettled_by force.NoMemory = Stop.NoMemory

-- all is written, or the sink failed
pub record Writes (result : Result (Unit {0}) Stop) (waiting : List ℕ) (old new : Option (List ℕ)) (before after : ℕ) : Type 0 where
  pub whole : OnOk result ((first : List ℕ) → old ≡ Some first → new ≡ Some (first ++ waiting))
  pub prefix : OnErr result ((first : List ℕ) → old ≡ Some first → WritesPrefix first waiting new)
  pub fault : IfErr result (IsWriteStop before after)

-- by what forcing the records gave: of records that were not forced nothing is written
abbrev pub WritesSettled : Result (Unit {0}) ForceFault → Result (Unit {0}) Stop → List ℕ → Option (List ℕ) → Option (List ℕ) → ℕ → ℕ → Type 0
WritesSettled (Ok u) result waiting old new before after = Writes result waiting old new before after
WritesSettled (Err fault) result waiting old new before after = (result ≡ Err (unsettled_by fault)) × (new ≡ old)
