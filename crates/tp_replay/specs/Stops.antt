-- What stops a replay: a line, the source or the sink; and what a fault says of the source and of the sink that were handed in.
use Rattle.std.specs.Prelude.{ℕ, ◌<◌}
use Rattle.tp_streams.specs.Stops.{IsFaultOf}
use Rattle.tp_replay.specs.declared.stop.LineStop.{LineStop}
use Rattle.tp_replay.specs.declared.stop.InputStop.{InputStop}
use Rattle.tp_replay.specs.declared.stop.ReplayStop.{ReplayStop}
use Rattle.tp_replay.specs.declared.stop.TrialStop.{TrialStop}

-- a line has a number from 1 on
abbrev pub IsNumbered : LineStop → Type 0
IsNumbered (LineStop.BadInput at why) = 0 < at
IsNumbered (LineStop.Limit what at) = 0 < at
IsNumbered LineStop.NoMemory = Unit {0}

-- what stops the reading of a schedule, by the source's counts before and after it
abbrev pub IsInputStop : ℕ → ℕ → InputStop → Type 0
IsInputStop old new (InputStop.Line stop) = IsNumbered stop
IsInputStop old new (InputStop.ReadFault faults) = IsFaultOf faults old new

-- or a replay, by those of the sink too
abbrev pub IsReplayStop : ℕ → ℕ → ℕ → ℕ → ReplayStop → Type 0
IsReplayStop read_old read_new write_old write_new (ReplayStop.Input stop) = IsInputStop read_old read_new stop
IsReplayStop read_old read_new write_old write_new (ReplayStop.WriteFault faults) = IsFaultOf faults write_old write_new

-- or a trial, which has no source
abbrev pub IsTrialStop : ℕ → ℕ → TrialStop → Type 0
IsTrialStop old new (TrialStop.Line stop) = IsNumbered stop
IsTrialStop old new (TrialStop.WriteFault faults) = IsFaultOf faults old new
