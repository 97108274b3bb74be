-- What stops the writing of a schedule.
use Rattle.std.specs.Prelude.{ℕ}
use Rattle.tp_streams.specs.declared.stop.Stop.{Stop}
use Rattle.tp_streams.specs.Stops.{IsFaultOf}

-- the sink's own fault, by its counts before and after, or memory
abbrev pub IsMakeStop : ℕ → ℕ → Stop → Type 0
IsMakeStop old new (Stop.BadInput at why) = ⊥
IsMakeStop old new (Stop.Limit what at) = ⊥
IsMakeStop old new (Stop.Foreign at) = ⊥
IsMakeStop old new (Stop.ReadFault faults) = ⊥
IsMakeStop old new (Stop.WriteFault faults) = IsFaultOf faults old new
IsMakeStop old new (Stop.DiskFault faults) = ⊥
IsMakeStop old new Stop.NoMemory = Unit {0}
