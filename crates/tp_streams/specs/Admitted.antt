-- Whether a reader of events lets in what the last frame says.
-- How a whole stream is read is said in Events.
use Rattle.std.specs.Prelude.{ℕ, ◌≡◌, ◌⊎◌, ◌+◌, ◌<◌, ◌≤◌, Some, Result, Ok, Err, List}
use Rattle.tp_records.specs.declared.body.Event.{Event}
use Rattle.tp_records.specs.BodyReading.{event_in}
use Rattle.tp_model.specs.declared.verdict.What.{What}
use Rattle.tp_model.specs.NodeTranscript.{declared_by}
use Rattle.tp_streams.specs.declared.stop.Stop.{Stop}
use Rattle.tp_streams.specs.Events.{EventPlace}
use Rattle.tp_streams.specs.Said.{IsRead}

-- the event is within the limits, and counts
pub record LetsIn (old : EventPlace) (body : List ℕ) (event : Event) (new : EventPlace) : Type 0 where
  pub says : event_in body ≡ Some event
  pub events : old.place.at ≤ old.most
  pub nodes : old.declares + declared_by event ≤ 256
  pub new_is : new ≡ record old { declares = old.declares + declared_by event }

-- the event passes a limit: that of events, or else that of nodes
pub record IsPast (old : EventPlace) (body : List ℕ) (stop : Stop) : Type 0 where
  pub event : Event
  pub says : event_in body ≡ Some event
  pub past : ((old.most < old.place.at) × (stop ≡ Stop.Limit What.Events old.place.at))
      ⊎ ((old.place.at ≤ old.most) × (256 < old.declares + declared_by event) × (stop ≡ Stop.Limit What.Nodes old.place.at))

abbrev pub Admits : EventPlace → List ℕ → Result Event Stop → EventPlace → Type 0
Admits old body (Ok event) new = LetsIn old body event new
Admits old body (Err stop) new = (new ≡ old) × (IsRead old.place.at body (Err stop) ⊎ IsPast old body stop)
