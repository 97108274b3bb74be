-- What `audit` does with the logs in its input: it ends as the call answers, of which this file says what was read and written.
-- Which verdict and which fates these are is said by tp_audit.
use Rattle.std.specs.Prelude.{ℕ, ◌≡◌, Option, Some, List, [], Result, IfOk, IfErr}
use Rattle.tp_streams.specs.declared.stop.Stop.{Stop}
use Rattle.tp_audit.specs.declared.mismatch.Mismatch.{Mismatch}
use Rattle.tp_audit_tool.specs.Audited.{Audits, NamesMismatches, StopsAudit, LeavesSink}
use Rattle.tp_replay.specs.declared.status.Status.{Status}
use Rattle.tp_replay.specs.Status.{ended_with}

-- one finding where two nodes of a tree ended apart
pub record AuditsLogs (status : Status) (left unread written output : Option (List ℕ)) (same_sink : Type 0) : Type 0 where
  pub answer : Result ℕ Stop
  pub ends : status ≡ ended_with answer
  pub audits : IfOk answer (λ n. (bytes : List ℕ) → left ≡ Some bytes → Audits bytes n unread written output)
  pub stopped : IfErr answer (λ stop. (bytes : List ℕ) → left ≡ Some bytes → StopsAudit bytes written output stop)
  pub untouched : IfErr answer (LeavesSink same_sink)

-- the logs that do not belong together, where the lines were written; else none are told
abbrev pub TellsMismatches : List ℕ → Status → List Mismatch → Type 0
TellsMismatches bytes Status.Ok found = NamesMismatches bytes found
TellsMismatches bytes (Status.Findings n) found = NamesMismatches bytes found
TellsMismatches bytes Status.Usage found = found ≡ []
TellsMismatches bytes (Status.BadInput at why) found = found ≡ []
TellsMismatches bytes (Status.Limit what at) found = found ≡ []
TellsMismatches bytes (Status.Foreign at) found = found ≡ []
TellsMismatches bytes (Status.ReadFault faults) found = found ≡ []
TellsMismatches bytes (Status.WriteFault faults) found = found ≡ []
TellsMismatches bytes (Status.DiskFault faults) found = found ≡ []
TellsMismatches bytes Status.NoMemory found = found ≡ []
