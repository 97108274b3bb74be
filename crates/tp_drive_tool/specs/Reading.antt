-- The whole input: the events that its frames say, up to the limits of a drive.
use Rattle.std.specs.Prelude.{ℕ, ◌≡◌, ◌<◌, Option, Some, List, []}
use Rattle.tp_records.specs.declared.body.Event.{Event as Given}
use Rattle.tp_framing.specs.Frames.{Stream, stream}
use Rattle.tp_model.specs.Transcript.{Ending, Done, Bad_input, At_limit}
use Rattle.tp_model.specs.NodeTranscript.{Input}
use Rattle.tp_streams.specs.declared.stop.Stop.{Stop}
use Rattle.tp_streams.specs.Stops.{IsFaultOf, IsOfEvents}
use Rattle.tp_streams.specs.Events.{events_from}

-- an input of 100,000 events at most
abbrev pub input_of : List ℕ → Input
input_of bytes = let s : Stream = stream bytes in events_from 100000 1 0 s.bodies s.rest

-- these are all its events; it is good to its end, and was read to it
abbrev pub HasRead : List ℕ → List Given → Option (List ℕ) → Type 0
HasRead bytes events unread = (input_of bytes ≡ record { events = events; ending = Done }) × (unread ≡ Some [])

-- the input ends so, after whatever events
abbrev pub EndsInput : List ℕ → Ending → Type 0
EndsInput bytes ending = (input_of bytes).ending ≡ ending

-- why they were not read: it is bad or passes a limit there, or the source failed, or memory ran out
abbrev pub IsInputStop : List ℕ → Option (List ℕ) → Stop → Type 0
IsInputStop bytes unread (Stop.BadInput at why) = EndsInput bytes (Bad_input at why)
IsInputStop bytes unread (Stop.Limit what at) = EndsInput bytes (At_limit what at)
IsInputStop bytes unread (Stop.Foreign at) = ⊥
IsInputStop bytes unread (Stop.ReadFault faults) = Unit {0}
IsInputStop bytes unread (Stop.WriteFault faults) = ⊥
IsInputStop bytes unread (Stop.DiskFault faults) = ⊥
IsInputStop bytes unread Stop.NoMemory = Unit {0}

-- by the source's counts before and after
abbrev pub IsReadCause : ℕ → ℕ → Stop → Type 0
IsReadCause old new (Stop.BadInput at why) = (0 < at) × IsOfEvents why
IsReadCause old new (Stop.Limit what at) = 0 < at
IsReadCause old new (Stop.Foreign at) = ⊥
IsReadCause old new (Stop.ReadFault faults) = IsFaultOf faults old new
IsReadCause old new (Stop.WriteFault faults) = ⊥
IsReadCause old new (Stop.DiskFault faults) = ⊥
IsReadCause old new Stop.NoMemory = Unit {0}
