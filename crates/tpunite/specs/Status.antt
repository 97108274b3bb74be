-- The exit code of each status.
use Rattle.std.specs.Prelude.{ℕ}
use Rattle.tpunite.specs.declared.status.Status.{Status}

abbrev pub code_of : Status → ℕ
code_of Status.Ok = 0
code_of Status.Findings = 1
code_of Status.Usage = 2
code_of (Status.BadInput at why) = 3
code_of (Status.Limit what at) = 4
code_of (Status.ReadFault faults) = 6
code_of (Status.WriteFault faults) = 7
code_of Status.NoMemory = 9
