-- A program that ran on the file of a log, and has stopped.
use Rattle.std.specs.Prelude.{ℕ, ◌≡◌, List, ◌++◌}
use Rattle.tp_records.specs.declared.body.Event.{Event as Given}
use Rattle.tp_processes.specs.Processes.{Process, IsProcess}

-- It was a process of the site, which found and left these bytes; and these events, of which it may have written something, were given to it.
pub record IsStopped (name found : List ℕ) (events : List Given) (left : List ℕ) : Type 0 where
  pub process : Process
  pub is : IsProcess name process
  pub from : process.found ≡ found
  pub to : process.left ≡ left
  pub more : List Given
  pub given : process.given ≡ events ++ more
