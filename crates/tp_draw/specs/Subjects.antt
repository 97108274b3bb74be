-- Whom a line of a transcript speaks of.
use Rattle.std.specs.Prelude.{ℕ, Option, Some, None, List}
use Rattle.tp_model.specs.declared.line.Line.{Line}
use Rattle.tp_model.specs.declared.out_line.LogWords.{LogWords}
use Rattle.tp_model.specs.declared.out_line.OutLine.{OutLine}
use Rattle.tp_draw.specs.declared.subject.Subject.{Subject}
use Rattle.tp_draw.specs.Events.{event_of}
use Rattle.tp_draw.specs.Lanes.{node_of}

abbrev pub subject_of_event : Option Line → Subject
subject_of_event (Some (Line.Node n s u)) = Subject.Node n
subject_of_event (Some (Line.Do n q)) = Subject.Node n
subject_of_event (Some (Line.Pass a b)) = Subject.Pair a b
subject_of_event (Some (Line.Skip a b)) = Subject.Pair a b
subject_of_event (Some (Line.Again k)) = Subject.Frame k
subject_of_event (Some (Line.Lose n p)) = Subject.Node n
subject_of_event (Some (Line.Heur n o)) = Subject.Node n
subject_of_event (Some (Line.GiveUp n p)) = Subject.Node n
subject_of_event (Some (Line.Retry n)) = Subject.Node n
subject_of_event (Some (Line.Purge n)) = Subject.Node n
subject_of_event (Some (Line.Crash s)) = Subject.Site s
subject_of_event (Some (Line.CrashIn s at fill action)) = Subject.Site s
subject_of_event (Some (Line.Show n)) = Subject.Node n
subject_of_event (Some (Line.Image s)) = Subject.Site s
subject_of_event _ = Subject.Nobody

-- a start is of all nodes of its site
abbrev pub subject_by : List ℕ → Option ℕ → Subject
subject_by s None = Subject.Site s
subject_by s (Some n) = Subject.Node n

abbrev pub subject_of_log : List ℕ → LogWords → Subject
subject_of_log s r = subject_by s (node_of r)

abbrev pub subject_of : OutLine → Subject
subject_of (OutLine.Echo text) = subject_of_event (event_of (OutLine.Echo text))
subject_of (OutLine.Log s r) = subject_of_log s r
subject_of (OutLine.Take k) = Subject.Frame k
subject_of (OutLine.Send k a b r) = Subject.Pair a b
subject_of (OutLine.Tell n i) = Subject.Node n
subject_of (OutLine.Refused n) = Subject.Before
subject_of (OutLine.Dropped n) = Subject.Before
subject_of OutLine.Nothing = Subject.Before
subject_of (OutLine.Lost k) = Subject.Frame k
subject_of (OutLine.Stopped s f) = Subject.Site s
subject_of (OutLine.State n p k) = Subject.Node n
subject_of (OutLine.Image s bs) = Subject.Site s
subject_of _ = Subject.Nobody
