-- A text on its way out, the bytes at its end being still to be written.
use Rattle.std.specs.Prelude.{ℕ, ◌≡◌, Option, Some, List, ◌++◌}
use Rattle.tp_streams.specs.declared.stop.Stop.{Stop}
use Rattle.tp_streams.specs.Stops.{IsFaultOf}

-- the text was written after what stood before, but for the pending bytes
pub record IsUnderWay (before text pending : List ℕ) (written : Option (List ℕ)) : Type 0 where
  pub part : List ℕ
  pub parts : text ≡ part ++ pending
  pub wrote : written ≡ Some (before ++ part)

-- why it did not go out, by the sink's counts before and after
abbrev pub IsSinkStop : ℕ → ℕ → Stop → Type 0
IsSinkStop old new (Stop.BadInput at why) = ⊥
IsSinkStop old new (Stop.Limit what at) = ⊥
IsSinkStop old new (Stop.Foreign at) = ⊥
IsSinkStop old new (Stop.ReadFault faults) = ⊥
IsSinkStop old new (Stop.WriteFault faults) = IsFaultOf faults old new
IsSinkStop old new (Stop.DiskFault faults) = ⊥
IsSinkStop old new Stop.NoMemory = Unit {0}
