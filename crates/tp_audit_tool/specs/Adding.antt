-- The log of one site, by what its bytes are read as.
use Rattle.std.specs.Prelude.{ℕ, ◌≡◌, ◌⊎◌, List}
use Rattle.tp_model.specs.LogCommands.{Opened, Is_foreign, Has}
use Rattle.tp_logrec.specs.LogText.{recs}
use Rattle.tp_streams.specs.declared.stop.Stop.{Stop}
use Rattle.tp_audit.specs.Audits.{Audit, IsAuditOf, with_log}
use Rattle.tp_audit.specs.Entries.{SiteLog}

-- its records were added behind these logs
abbrev pub Adds : List SiteLog → List ℕ → Opened → Audit → Type 0
Adds logs site (Is_foreign at) new = ⊥
Adds logs site (Has version ps) new = IsAuditOf (with_log logs site (recs ps)) new

-- they are foreign, or there was no memory
abbrev pub IsRefused : Opened → Stop → Type 0
IsRefused (Is_foreign at) stop = (stop ≡ Stop.Foreign at) ⊎ (stop ≡ Stop.NoMemory)
IsRefused (Has version ps) stop = stop ≡ Stop.NoMemory

abbrev pub refusal_of : Stop → Stop
refusal_of (Stop.BadInput at why) = Stop.NoMemory
refusal_of (Stop.Limit what at) = Stop.NoMemory
refusal_of (Stop.Foreign at) = Stop.Foreign at
refusal_of (Stop.ReadFault faults) = Stop.NoMemory
refusal_of (Stop.WriteFault faults) = Stop.NoMemory
refusal_of (Stop.DiskFault faults) = Stop.NoMemory
refusal_of Stop.NoMemory = Stop.NoMemory
