-- What `make` does: the schedule of a number is written.
use Rattle.std.specs.Prelude.{ℕ, ◌≡◌, Option, Some, List, [], ◌∷◌, ◌++◌, Result, Err, OnOk, OnErr}
use Rattle.tp_model.specs.Generator.{schedule}
use Rattle.tp_streams.specs.declared.stop.Stop.{Stop}
use Rattle.tp_streams.specs.Written.{WritesPrefix}
use Rattle.tp_replay.specs.declared.status.Status.{Status}
use Rattle.tp_replay.specs.Status.{ok, write_fault, no_memory, ended}

-- the exit codes of its endings
abbrev pub make_exits : List ℕ
make_exits = ok ∷ write_fault ∷ no_memory ∷ []

-- It is written after the bytes from before; where the sink fails a prefix of it, and without memory nothing.
pub record Makes (number nodes rounds : ℕ) (status : Status) (written output : Option (List ℕ)) (same_sink : Type 0) : Type 0 where
  pub answer : Result (Unit {0}) Stop
  pub ends : status ≡ ended answer
  pub whole : OnOk answer ((before : List ℕ) → written ≡ Some before → output ≡ Some (before ++ schedule number nodes rounds))
  pub prefix : OnErr answer ((before : List ℕ) → written ≡ Some before → WritesPrefix before (schedule number nodes rounds) output)
  pub unwritten : answer ≡ Err Stop.NoMemory → same_sink
