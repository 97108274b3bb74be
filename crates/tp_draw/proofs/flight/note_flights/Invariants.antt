use Rattle.std.proofs.Common.{◌≡◌, ℕ, None, ◌<◌, length, drop}
use Rattle.std.specs.Prelude.{slice_index_or}
use Rattle.tp_draw.specs.Flights.{flight_in, flight_or}
use Rattle.tp_draw.proofs.flight.note_flights.Given as goal

abbrev pub invariant-loop-row : goal.invariant-loop-row
invariant-loop-row l = record {
  many : length l.flights.items ≡ 65536;
  flights : (k : ℕ) → k < 65536 → flight_or (slice_index_or l.flights.items k None) (flight_in k l.row (drop l.row l.lines)) ≡ flight_or (slice_index_or l.fn.flights.items k None) (flight_in k 0 l.lines);
}
