use Rattle.std.proofs.Common.{◌≡◌, ℕ, None, length}
use Rattle.std.specs.Prelude.{slice_index_or}
use Rattle.tp_draw.proofs.flight.no_flights.Given as goal

abbrev pub invariant-loop-i : goal.invariant-loop-i
invariant-loop-i l = record {
  many : length l.flights.items ≡ l._i;
  none : (k : ℕ) → slice_index_or l.flights.items k None ≡ None;
}
