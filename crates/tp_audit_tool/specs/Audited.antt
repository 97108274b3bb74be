-- How an audit of a stream ends, and what was read and written then.
use Rattle.std.specs.Prelude.{ℕ, ◌≡◌, ◌<◌, Option, Some, Ok, Err, List, [], ◌++◌}
use Rattle.tp_streams.specs.declared.stop.Stop.{Stop}
use Rattle.tp_streams.specs.Stops.{IsFaultOf}
use Rattle.tp_streams.specs.Written.{WritesPrefix}
use Rattle.tp_audit.specs.Audits.{Audit, IsAuditOf}
use Rattle.tp_audit.specs.Entries.{SiteLog}
use Rattle.tp_audit.specs.Verdicts.{verdict}
use Rattle.tp_audit.specs.declared.mismatch.Mismatch.{Mismatch}
use Rattle.tp_audit.specs.Mismatches.{mismatches}
use Rattle.tp_audit_tool.specs.AuditTranscript.{heard, audit_text, findings_of}

-- ---- what was read

-- all of it was read, and these are its logs
pub record Hears (bytes : List ℕ) (audit : Audit) (left : Option (List ℕ)) : Type 0 where
  pub logs : List SiteLog
  pub heard : heard bytes ≡ Ok logs
  pub is : IsAuditOf logs audit
  pub whole : left ≡ Some []

-- by the input, or by what is outside
abbrev pub StopsHearing : List ℕ → Stop → Type 0
StopsHearing bytes (Stop.BadInput at why) = heard bytes ≡ Err (Stop.BadInput at why)
StopsHearing bytes (Stop.Limit what at) = heard bytes ≡ Err (Stop.Limit what at)
StopsHearing bytes (Stop.Foreign at) = heard bytes ≡ Err (Stop.Foreign at)
StopsHearing bytes (Stop.ReadFault faults) = Unit {0}
StopsHearing bytes (Stop.WriteFault faults) = ⊥
StopsHearing bytes (Stop.DiskFault faults) = ⊥
StopsHearing bytes Stop.NoMemory = Unit {0}

-- what stops the reading of the frame with that number, or of a log
abbrev pub IsOfInput : ℕ → Stop → Type 0
IsOfInput number (Stop.BadInput at why) = at ≡ number
IsOfInput number (Stop.Limit what at) = at ≡ number
IsOfInput number (Stop.Foreign at) = Unit {0}
IsOfInput number (Stop.ReadFault faults) = ⊥
IsOfInput number (Stop.WriteFault faults) = ⊥
IsOfInput number (Stop.DiskFault faults) = ⊥
IsOfInput number Stop.NoMemory = Unit {0}

-- by the source's counts before and after; frames are numbered from 1
abbrev pub IsHearStop : ℕ → ℕ → Stop → Type 0
IsHearStop old new (Stop.BadInput at why) = 0 < at
IsHearStop old new (Stop.Limit what at) = 0 < at
IsHearStop old new (Stop.Foreign at) = Unit {0}
IsHearStop old new (Stop.ReadFault faults) = IsFaultOf faults old new
IsHearStop old new (Stop.WriteFault faults) = ⊥
IsHearStop old new (Stop.DiskFault faults) = ⊥
IsHearStop old new Stop.NoMemory = Unit {0}

-- ---- what was written

-- the input was read to its end, and the lines of its logs were written
pub record Audits (bytes : List ℕ) (findings : ℕ) (left : Option (List ℕ)) (old new : Option (List ℕ)) : Type 0 where
  pub logs : List SiteLog
  pub heard : heard bytes ≡ Ok logs
  pub count : findings ≡ findings_of (verdict logs)
  pub written : (before : List ℕ) → old ≡ Some before → new ≡ Some (before ++ audit_text logs)
  pub whole : left ≡ Some []

-- these are the mismatches of its logs
pub record NamesMismatches (bytes : List ℕ) (found : List Mismatch) : Type 0 where
  pub logs : List SiteLog
  pub heard : heard bytes ≡ Ok logs
  pub named : found ≡ mismatches logs

-- a prefix of them
pub record AuditsPart (bytes : List ℕ) (old new : Option (List ℕ)) : Type 0 where
  pub logs : List SiteLog
  pub heard : heard bytes ≡ Ok logs
  pub written : (before : List ℕ) → old ≡ Some before → WritesPrefix before (audit_text logs) new

abbrev pub StopsAudit : List ℕ → Option (List ℕ) → Option (List ℕ) → Stop → Type 0
StopsAudit bytes old new (Stop.BadInput at why) = heard bytes ≡ Err (Stop.BadInput at why)
StopsAudit bytes old new (Stop.Limit what at) = heard bytes ≡ Err (Stop.Limit what at)
StopsAudit bytes old new (Stop.Foreign at) = heard bytes ≡ Err (Stop.Foreign at)
StopsAudit bytes old new (Stop.ReadFault faults) = Unit {0}
StopsAudit bytes old new (Stop.WriteFault faults) = AuditsPart bytes old new
StopsAudit bytes old new (Stop.DiskFault faults) = ⊥
StopsAudit bytes old new Stop.NoMemory = Unit {0}

-- by the counts of the source and of the sink, each before and after
abbrev pub IsAuditStop : ℕ → ℕ → ℕ → ℕ → Stop → Type 0
IsAuditStop source read sink now (Stop.BadInput at why) = 0 < at
IsAuditStop source read sink now (Stop.Limit what at) = 0 < at
IsAuditStop source read sink now (Stop.Foreign at) = Unit {0}
IsAuditStop source read sink now (Stop.ReadFault faults) = IsFaultOf faults source read
IsAuditStop source read sink now (Stop.WriteFault faults) = IsFaultOf faults sink now
IsAuditStop source read sink now (Stop.DiskFault faults) = ⊥
IsAuditStop source read sink now Stop.NoMemory = Unit {0}

-- but for a fault of the sink, the sink is as it was
abbrev pub LeavesSink : Type 0 → Stop → Type 0
LeavesSink same (Stop.BadInput at why) = same
LeavesSink same (Stop.Limit what at) = same
LeavesSink same (Stop.Foreign at) = same
LeavesSink same (Stop.ReadFault faults) = same
LeavesSink same (Stop.WriteFault faults) = Unit {0}
LeavesSink same (Stop.DiskFault faults) = same
LeavesSink same Stop.NoMemory = same
