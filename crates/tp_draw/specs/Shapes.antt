-- The shape of each line: what the picture has in the line's row, and at which lanes.
use Rattle.std.specs.Prelude.{ℕ, ◌-◌, Bool, true, false, not, if◌then◌else◌, Option, Some, None, List}
use Rattle.tp_model.specs.declared.line.Line.{Line}
use Rattle.tp_model.specs.declared.out_line.OutLine.{OutLine}
use Rattle.tp_draw.specs.declared.end.End.{End}
use Rattle.tp_draw.specs.declared.flight.Flight.{Flight}
use Rattle.tp_draw.specs.declared.places.Places.{Places}
use Rattle.tp_draw.specs.declared.shape.Shape.{Shape}
use Rattle.tp_draw.specs.Lanes.{lanes_of, node_of, place_in, places_in}
use Rattle.tp_draw.specs.Ends.{line_at, ended_at, end_of, is_in_row}
use Rattle.tp_draw.specs.Events.{event_of}
use Rattle.tp_draw.specs.Flights.{flight_of}

-- the place of a node's lane in the picture of a transcript
abbrev pub place_of : List OutLine → ℕ → ℕ
place_of os n = place_in (lanes_of os) n

-- the places of a site's lanes
abbrev pub places_of : List OutLine → List ℕ → Places
places_of os s = places_in (lanes_of os) s

-- a mark at the lane of the node of which a record is; a bar over the site's lanes where it is that of a start
abbrev pub mark_of : List OutLine → List ℕ → Option ℕ → Shape
mark_of os s None = Shape.Boot (places_of os s)
mark_of os s (Some n) = Shape.Mark (place_of os n)

-- ---- the end of a frame

abbrev pub is_lost : End → Bool
is_lost (End.Lost r) = true
is_lost _ = false

-- The arrow of the frame ends here, if this is its first end, and a loss is said in words. Each later end has an arrow of
-- its own.
abbrev pub end_shape : List OutLine → ℕ → Bool → End → Option Flight → Shape
end_shape os k first e None = Shape.Bare
end_shape os k first e (Some f) =
    if not first then Shape.Again k (place_of os f.from) (place_of os f.to) f.row f.tone e
    else if is_lost e then Shape.Lost (place_of os f.from) (place_of os f.to)
    else Shape.Bare

-- of the frame that ends at a line in that row, and how
abbrev pub ending : List OutLine → ℕ → Option (ℕ × End) → Shape
ending os r None = Shape.Bare
ending os r (Some p) = end_shape os p.0 (is_in_row r (end_of os p.0)) p.1 (flight_of os p.0)

-- ---- what is refused

-- the node of a request or of a local event
abbrev pub asked_by : Option Line → Option ℕ
asked_by (Some (Line.Do n q)) = Some n
asked_by (Some (Line.Lose n p)) = Some n
asked_by (Some (Line.Heur n o)) = Some n
asked_by (Some (Line.GiveUp n p)) = Some n
asked_by (Some (Line.Retry n)) = Some n
asked_by (Some (Line.Purge n)) = Some n
asked_by _ = None

abbrev pub refused_request : List OutLine → Option ℕ → Shape
refused_request os None = Shape.Bare
refused_request os (Some n) = Shape.Refused (place_of os n)

abbrev pub refused_frame : List OutLine → Option Flight → Shape
refused_frame os None = Shape.Bare
refused_frame os (Some f) = Shape.Dropped (place_of os f.to)

-- by the line before: a frame that was taken, or an event of a node
abbrev pub refusal_after : List OutLine → OutLine → Shape
refusal_after os (OutLine.Take k) = refused_frame os (flight_of os k)
refusal_after os o = refused_request os (asked_by (event_of o))

-- ---- all lines

-- the shape of the line in that row of a transcript
abbrev pub shape_of : List OutLine → ℕ → OutLine → Shape
shape_of os r (OutLine.Echo text) = Shape.Event
shape_of os r (OutLine.Log s m) = mark_of os s (node_of m)
shape_of os r (OutLine.Take k) = ending os r (ended_at os r (OutLine.Take k))
shape_of os r (OutLine.Send k a b m) = Shape.Arrow k (place_of os a) (place_of os b) (end_of os k)
shape_of os r (OutLine.Tell n i) = Shape.Told (place_of os n)
shape_of os r (OutLine.Refused n) = refusal_after os (line_at os (r - 1))
shape_of os r (OutLine.Dropped n) = refusal_after os (line_at os (r - 1))
shape_of os r OutLine.Nothing = Shape.Bare
shape_of os r (OutLine.Lost k) = ending os r (ended_at os r (OutLine.Lost k))
shape_of os r (OutLine.Stopped s f) = Shape.Stop (places_of os s)
shape_of os r (OutLine.State n p k) = Shape.State (place_of os n)
shape_of os r (OutLine.Image s bs) = Shape.Bare
shape_of os r (OutLine.Agreed a o) = Shape.Tree
shape_of os r (OutLine.Mixed a ns) = Shape.Tree
shape_of os r (OutLine.Open a) = Shape.Tree
