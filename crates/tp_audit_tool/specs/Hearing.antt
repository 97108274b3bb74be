-- How far the logs of an audit have come, and what the code keeps of it.
use Rattle.std.specs.Prelude.{ℕ, ◌≡◌, ◌⊎◌, ◌+◌, ◌-◌, ◌≤◌, not, Bool, true, Option, Some, None, Result, Ok, Err, List, [], length}
use Rattle.tp_names.specs.Places.{AreBytes}
use Rattle.tp_streams.specs.declared.stop.Stop.{Stop}
use Rattle.tp_audit.specs.Audits.{IsAuditOf, is_added}
use Rattle.tp_audit_tool.specs.declared.hearing.Hearing.{Hearing}
use Rattle.tp_audit_tool.specs.declared.hearing.OpenLog.{OpenLog}
use Rattle.tp_audit_tool.specs.AuditTranscript.{Progress}

abbrev pub count_of : Option OpenLog → ℕ
count_of None = 0
count_of (Some o) = 1

-- a log that is open is of a site that did not come before
abbrev pub is_fresh : Progress → Bool
is_fresh p = elim p.pending [ None ↦ true | Some o ↦ not (is_added p.logs o.site) ]

-- the bytes of the log that is open
abbrev pub bytes_of : Option OpenLog → List ℕ
bytes_of None = []
bytes_of (Some o) = o.bytes

-- the code stands there
pub record IsAt (p : Progress) (h : Hearing) : Type 0 where
  pub audit : IsAuditOf p.logs h.audit
  pub pending : h.pending ≡ p.pending
  pub size : h.size ≡ p.size
  pub sites : h.sites ≡ length p.logs + count_of p.pending
  pub fresh : is_fresh p ≡ true
  pub bytes : AreBytes (bytes_of p.pending)
  pub within : length (bytes_of p.pending) ≤ p.size

-- it comes as far as these say, or stops where they do; or there is no memory
abbrev pub Reaches : Result Progress Stop → Result (Unit {0}) Stop → Hearing → Type 0
Reaches r (Ok done) new = (q : Progress) × (r ≡ Ok q) × IsAt q new
Reaches r (Err stop) new = (r ≡ Err stop) ⊎ (stop ≡ Stop.NoMemory)

-- how many sites and bytes more there may be
abbrev pub room_of : Hearing → ℕ
room_of h = 16 - h.sites + (268435456 - h.size)
