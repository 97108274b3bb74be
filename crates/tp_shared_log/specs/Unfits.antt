-- Of the records that had no room the first is kept.
use Rattle.std.specs.Prelude.{ℕ, Option, Some, None}
use Rattle.tp_shared_log.specs.declared.unfit.Unfit.{Unfit}

abbrev pub first_of : Option Unfit → ℕ → ℕ → Option Unfit
first_of None size body = Some (record { size = size; body = body })
first_of (Some unfit) size body = Some unfit
