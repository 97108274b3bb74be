-- What the code keeps of a transcript while it draws: its lanes, and tables of where its frames come from and end.
use Rattle.std.specs.Prelude.{ℕ, ◌≡◌, ◌<◌, None, length, slice_index_or}
use Rattle.tp_draw.specs.declared.end.End.{End}
use Rattle.tp_draw.specs.declared.plan.Plan.TheInside.{Inside}
use Rattle.tp_draw.specs.Lanes.{lanes_of}
use Rattle.tp_draw.specs.Flights.{flight_of}
use Rattle.tp_draw.specs.Ends.{end_of}

pub record IsPlan (p : Inside) : Type 0 where
  pub lanes : p.lanes.items ≡ lanes_of p.lines.now
  pub each : length p.flights.items ≡ 65536
  pub flights : (k : ℕ) → k < 65536 → slice_index_or p.flights.items k None ≡ flight_of p.lines.now k
  pub many : length p.ends.items ≡ 65536
  pub ends : (k : ℕ) → k < 65536 → slice_index_or p.ends.items k End.Never ≡ end_of p.lines.now k
