-- What may stop a program, and what a fault says of the source or the sink that was handed in.
-- At which bytes an input is bad or passes a limit is said by tp_model, and is no matter of this file.
use Rattle.std.specs.Prelude.{ℕ, ◌≡◌, Option, None, Result, Ok, Err}
use Rattle.tp_outside.specs.Faults.{HasRisen}
use Rattle.tp_model.specs.declared.verdict.What.{What}
use Rattle.tp_model.specs.declared.verdict.Why.{Why}
use Rattle.tp_model.specs.Transcript.{Ending, Done, Bad_input, At_limit}
use Rattle.tp_streams.specs.declared.stop.Stop.{Stop}

-- a fault tells the count of the object that failed, which rose in the call
pub record IsFaultOf (faults old new : ℕ) : Type 0 where
  pub risen : HasRisen old new
  pub told : faults ≡ new

-- an ending of the definitions as a call answers it: there is no more, or the program stops
abbrev pub ended : {A : Type 0} → Ending → Result (Option A) Stop
ended Done = Ok None
ended (Bad_input at why) = Err (Stop.BadInput at why)
ended (At_limit what at) = Err (Stop.Limit what at)

-- ---- what stops a call

-- a stream may go on with no frame
abbrev pub IsOfFrames : Why → Type 0
IsOfFrames Why.Long = ⊥
IsOfFrames Why.Word = ⊥
IsOfFrames Why.Number = ⊥
IsOfFrames Why.Name = ⊥
IsOfFrames Why.Short = Unit {0}
IsOfFrames Why.Length = Unit {0}
IsOfFrames Why.Body = ⊥

-- or with a frame that says no event
abbrev pub IsOfEvents : Why → Type 0
IsOfEvents Why.Long = ⊥
IsOfEvents Why.Word = ⊥
IsOfEvents Why.Number = ⊥
IsOfEvents Why.Name = ⊥
IsOfEvents Why.Short = Unit {0}
IsOfEvents Why.Length = Unit {0}
IsOfEvents Why.Body = Unit {0}

-- what is counted of events
abbrev pub IsCounted : What → Type 0
IsCounted What.Schedule = ⊥
IsCounted What.Sites = ⊥
IsCounted What.Nodes = Unit {0}
IsCounted What.Frames = ⊥
IsCounted What.Answers = ⊥
IsCounted What.Events = Unit {0}
IsCounted What.Log = ⊥
IsCounted What.Boots = ⊥

-- what stops the reading of the frame with that number, by the source's counts before and after it
abbrev pub IsFrameStop : ℕ → ℕ → ℕ → Stop → Type 0
IsFrameStop number old new (Stop.BadInput at why) = (at ≡ number) × IsOfFrames why
IsFrameStop number old new (Stop.Limit what at) = ⊥
IsFrameStop number old new (Stop.Foreign at) = ⊥
IsFrameStop number old new (Stop.ReadFault faults) = IsFaultOf faults old new
IsFrameStop number old new (Stop.WriteFault faults) = ⊥
IsFrameStop number old new (Stop.DiskFault faults) = ⊥
IsFrameStop number old new Stop.NoMemory = Unit {0}

-- what stops the reading of the event in the frame with that number, by the same counts
abbrev pub IsEventStop : ℕ → ℕ → ℕ → Stop → Type 0
IsEventStop number old new (Stop.BadInput at why) = (at ≡ number) × IsOfEvents why
IsEventStop number old new (Stop.Limit what at) = (at ≡ number) × IsCounted what
IsEventStop number old new (Stop.Foreign at) = ⊥
IsEventStop number old new (Stop.ReadFault faults) = IsFaultOf faults old new
IsEventStop number old new (Stop.WriteFault faults) = ⊥
IsEventStop number old new (Stop.DiskFault faults) = ⊥
IsEventStop number old new Stop.NoMemory = Unit {0}

-- what stops a write that does not come to its end, by the sink's counts before and after it: the sink's own fault
abbrev pub IsWriteStop : ℕ → ℕ → Stop → Type 0
IsWriteStop old new (Stop.BadInput at why) = ⊥
IsWriteStop old new (Stop.Limit what at) = ⊥
IsWriteStop old new (Stop.Foreign at) = ⊥
IsWriteStop old new (Stop.ReadFault faults) = ⊥
IsWriteStop old new (Stop.WriteFault faults) = IsFaultOf faults old new
IsWriteStop old new (Stop.DiskFault faults) = ⊥
IsWriteStop old new Stop.NoMemory = ⊥

-- ---- answers for bytes

-- the second answer, unless the first is that the source failed or that memory ran out
abbrev pub unless_outside : {A : Type 0} → Result A Stop → Result A Stop → Result A Stop
unless_outside (Ok a) s = s
unless_outside (Err (Stop.BadInput at why)) s = s
unless_outside (Err (Stop.Limit what at)) s = s
unless_outside (Err (Stop.Foreign at)) s = s
unless_outside (Err (Stop.ReadFault faults)) s = Err (Stop.ReadFault faults)
unless_outside (Err (Stop.WriteFault faults)) s = s
unless_outside (Err (Stop.DiskFault faults)) s = s
unless_outside (Err Stop.NoMemory) s = Err Stop.NoMemory
