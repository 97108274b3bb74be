-- The event of the schedule that a line tells.
use Rattle.std.specs.Prelude.{Option, Some, None}
use Rattle.tp_model.specs.declared.line.Line.{Line}
use Rattle.tp_model.specs.declared.out_line.OutLine.{OutLine}
use Rattle.tp_model.specs.LineReading.{Reading, Says, read_line}

abbrev pub event_in : Reading → Option Line
event_in (Says l) = Some l
event_in _ = None

-- where its text is one
abbrev pub event_of : OutLine → Option Line
event_of (OutLine.Echo text) = event_in (read_line text)
event_of _ = None
