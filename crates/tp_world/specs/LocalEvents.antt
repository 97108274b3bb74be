-- Which lines are a local event of a node.
use Rattle.std.specs.Prelude.{Bool, true, false}
use Rattle.tp_model.specs.declared.line.Line.{Line}

abbrev pub is_local : Line → Bool
is_local (Line.Node n s p) = false
is_local (Line.Do n r) = false
is_local (Line.Pass a b) = false
is_local (Line.Skip a b) = false
is_local (Line.Again k) = false
is_local Line.Drain = false
is_local (Line.Lose n p) = true
is_local (Line.Heur n o) = true
is_local (Line.GiveUp n p) = true
is_local (Line.Retry n) = true
is_local (Line.Purge n) = true
is_local (Line.Crash s) = false
is_local (Line.CrashIn s k x l) = false
is_local (Line.Show n) = false
is_local (Line.Image s) = false
is_local (Line.Auto n k) = false
is_local (Line.Leave k) = false
