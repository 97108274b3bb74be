-- What the body of a frame says, as it is read.
-- How a whole stream is read is said in Events.
use Rattle.std.specs.Prelude.{ℕ, ◌≡◌, ◌⊎◌, Some, None, Result, Ok, Err, List}
use Rattle.tp_records.specs.declared.body.Event.{Event}
use Rattle.tp_records.specs.BodyReading.{event_in}
use Rattle.tp_model.specs.declared.verdict.Why.{Why}
use Rattle.tp_streams.specs.declared.stop.Stop.{Stop}

-- the event that the body of the frame with that number says, or that it says none, or that memory ran out
abbrev pub IsRead : ℕ → List ℕ → Result Event Stop → Type 0
IsRead number body (Ok event) = event_in body ≡ Some event
IsRead number body (Err stop) = ((stop ≡ Stop.BadInput number Why.Body) × (event_in body ≡ None)) ⊎ (stop ≡ Stop.NoMemory)
