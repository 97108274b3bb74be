-- From where a frame goes, and to where: by the line that says that it was sent.
use Rattle.std.specs.Prelude.{ℕ, suc, ◌==◌, if◌then◌else◌, Option, Some, None, List, [], ◌∷◌}
use Rattle.tp_model.specs.declared.out_line.OutLine.{OutLine}
use Rattle.tp_draw.specs.declared.flight.Flight.{Flight}
use Rattle.tp_draw.specs.Tones.{tone_of_sent}

-- the frame that is sent at this line, in that row, and its flight
abbrev pub sent_at : ℕ → OutLine → Option (ℕ × Flight)
sent_at r (OutLine.Send f a b m) = Some (f, record { row = r; from = a; to = b; tone = tone_of_sent m })
sent_at r _ = None

-- of this frame; none, where it is another that is sent
abbrev pub flight_at : ℕ → Option (ℕ × Flight) → Option Flight
flight_at k None = None
flight_at k (Some p) = if p.0 == k then Some p.1 else None

abbrev pub flight_or : Option Flight → Option Flight → Option Flight
flight_or None g = g
flight_or (Some f) g = Some f

-- the first flight of the frame in these lines, of which the first is in that row
abbrev pub flight_in : ℕ → ℕ → List OutLine → Option Flight
flight_in k r [] = None
flight_in k r (o ∷ os) = flight_or (flight_at k (sent_at r o)) (flight_in k (suc r) os)

-- in a whole transcript
abbrev pub flight_of : List OutLine → ℕ → Option Flight
flight_of os k = flight_in k 0 os
