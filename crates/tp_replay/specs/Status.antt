-- How a run ends: its exit code, what a call's answer makes of it, and what a fault says of the source, the sink or the disk that was
-- handed in.
use Rattle.std.specs.Prelude.{ℕ, zero, suc, ◌≡◌, ◌<◌, ◌==◌, Bool, true, List, Result, Ok, Err}
use Rattle.std.specs.List.{list_any}
use Rattle.tp_model.specs.declared.verdict.What.{What}
use Rattle.tp_streams.specs.declared.stop.Stop.{Stop}
use Rattle.tp_streams.specs.Stops.{IsFaultOf}
use Rattle.tp_replay.specs.declared.status.Status.{Status}
use Rattle.tp_replay.specs.declared.stop.LineStop.{LineStop}
use Rattle.tp_replay.specs.declared.stop.InputStop.{InputStop}
use Rattle.tp_replay.specs.declared.stop.ReplayStop.{ReplayStop}
use Rattle.tp_replay.specs.declared.stop.TrialStop.{TrialStop}

-- ---- exit codes

abbrev pub ok : ℕ
ok = 0

abbrev pub findings : ℕ
findings = 1

abbrev pub usage : ℕ
usage = 2

abbrev pub bad_input : ℕ
bad_input = 3

abbrev pub limit : ℕ
limit = 4

abbrev pub foreign : ℕ
foreign = 5

abbrev pub read_fault : ℕ
read_fault = 6

abbrev pub write_fault : ℕ
write_fault = 7

abbrev pub disk_fault : ℕ
disk_fault = 8

abbrev pub no_memory : ℕ
no_memory = 9

abbrev pub code_of : Status → ℕ
code_of Status.Ok = ok
code_of (Status.Findings n) = findings
code_of Status.Usage = usage
code_of (Status.BadInput at why) = bad_input
code_of (Status.Limit what at) = limit
code_of (Status.Foreign at) = foreign
code_of (Status.ReadFault faults) = read_fault
code_of (Status.WriteFault faults) = write_fault
code_of (Status.DiskFault faults) = disk_fault
code_of Status.NoMemory = no_memory

-- a code is among these
abbrev pub has : ℕ → List ℕ → Bool
has code codes = list_any (λ c. code == c) codes

-- ---- what a call answers

-- how a run ends that such a stop ends
abbrev pub status_of : Stop → Status
status_of (Stop.BadInput at why) = Status.BadInput at why
status_of (Stop.Limit what at) = Status.Limit what at
status_of (Stop.Foreign at) = Status.Foreign at
status_of (Stop.ReadFault faults) = Status.ReadFault faults
status_of (Stop.WriteFault faults) = Status.WriteFault faults
status_of (Stop.DiskFault faults) = Status.DiskFault faults
status_of Stop.NoMemory = Status.NoMemory

-- or that a call ends with its answer
abbrev pub ended : Result (Unit {0}) Stop → Status
ended (Ok u) = Status.Ok
ended (Err stop) = status_of stop

-- with so many findings, or none
abbrev pub found : ℕ → Status
found zero = Status.Ok
found (suc n) = Status.Findings (suc n)

abbrev pub ended_with : Result ℕ Stop → Status
ended_with (Ok n) = found n
ended_with (Err stop) = status_of stop

-- ---- what a replay answers

-- how a run ends that stops in a line
abbrev pub line_status : LineStop → Status
line_status (LineStop.BadInput at why) = Status.BadInput at why
line_status (LineStop.Limit what at) = Status.Limit what at
line_status LineStop.NoMemory = Status.NoMemory

-- or that a replay ends with its answer
abbrev pub replay_status : Result (Unit {0}) ReplayStop → Status
replay_status (Ok u) = Status.Ok
replay_status (Err (ReplayStop.Input (InputStop.Line stop))) = line_status stop
replay_status (Err (ReplayStop.Input (InputStop.ReadFault faults))) = Status.ReadFault faults
replay_status (Err (ReplayStop.WriteFault faults)) = Status.WriteFault faults

-- or a trial
abbrev pub trial_status : Result (Unit {0}) TrialStop → Status
trial_status (Ok u) = Status.Ok
trial_status (Err (TrialStop.Line stop)) = line_status stop
trial_status (Err (TrialStop.WriteFault faults)) = Status.WriteFault faults

-- ---- a whole run

-- A limit is reached in a line or a frame, which has a number from 1 on; that of the log or of the boots may be reached before the first.
abbrev pub IsLimitAt : What → ℕ → Type 0
IsLimitAt What.Schedule at = 0 < at
IsLimitAt What.Sites at = 0 < at
IsLimitAt What.Nodes at = 0 < at
IsLimitAt What.Frames at = 0 < at
IsLimitAt What.Answers at = 0 < at
IsLimitAt What.Events at = 0 < at
IsLimitAt What.Log at = Unit {0}
IsLimitAt What.Boots at = Unit {0}

-- what ends a run, by the counts of the source, of the sink and of the disk before and after it
abbrev pub IsEnding : ℕ → ℕ → ℕ → ℕ → ℕ → ℕ → Status → Type 0
IsEnding read_old read_new write_old write_new disk_old disk_new Status.Ok = Unit {0}
IsEnding read_old read_new write_old write_new disk_old disk_new (Status.Findings n) = 0 < n
IsEnding read_old read_new write_old write_new disk_old disk_new Status.Usage = Unit {0}
IsEnding read_old read_new write_old write_new disk_old disk_new (Status.BadInput at why) = 0 < at
IsEnding read_old read_new write_old write_new disk_old disk_new (Status.Limit what at) = IsLimitAt what at
IsEnding read_old read_new write_old write_new disk_old disk_new (Status.Foreign at) = Unit {0}
IsEnding read_old read_new write_old write_new disk_old disk_new (Status.ReadFault faults) = IsFaultOf faults read_old read_new
IsEnding read_old read_new write_old write_new disk_old disk_new (Status.WriteFault faults) = IsFaultOf faults write_old write_new
IsEnding read_old read_new write_old write_new disk_old disk_new (Status.DiskFault faults) = IsFaultOf faults disk_old disk_new
IsEnding read_old read_new write_old write_new disk_old disk_new Status.NoMemory = Unit {0}

-- with one of these exit codes
pub record Ends (codes : List ℕ) (read_old read_new write_old write_new disk_old disk_new : ℕ) (status : Status) : Type 0 where
  pub exit : has (code_of status) codes ≡ true
  pub cause : IsEnding read_old read_new write_old write_new disk_old disk_new status
