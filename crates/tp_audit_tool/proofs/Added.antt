-- What a log in order is read as, beside the records that a started journal keeps.
use Rattle.std.proofs.Common.{◌≡◌, ℕ, ◌+◌, Bool, inl, inr, Option, List, [], ◌∷◌, length, refl, sym, ap, subst}
use Rattle.tp_logrec.specs.declared.record.LogRec.{LogRec}
use Rattle.tp_model.specs.LogCommands.{Opened, Is_foreign, Has, opened}
use Rattle.tp_logrec.specs.LogText.{recs}
use Rattle.tp_journal.specs.Records.{receipts_from, first_place, text}
use Rattle.tp_streams.specs.declared.stop.Stop.{Stop}
use Rattle.tp_log_tools.specs.Readings.{as_placed}
use Rattle.tp_outside.specs.Story.{Story}
use Rattle.tp_log_tools.specs.Opening.{Opens, StopsOpening}
use Rattle.tp_audit.specs.Audits.{Audit, IsAuditOf, with_log}
use Rattle.tp_audit.specs.Entries.{SiteLog}
use Rattle.tp_audit_tool.specs.Adding.{Adds, IsRefused, refusal_of}

-- a foreign log is refused as such
pub refused_foreign : (o : Opened) (at : ℕ) → o ≡ Is_foreign at → IsRefused o (Stop.Foreign at)
refused_foreign o at is = subst (λ q. IsRefused q (Stop.Foreign at)) (sym is) (inl refl)

pub refused_memory : (o : Opened) → IsRefused o Stop.NoMemory
refused_memory (Is_foreign at) = inr refl
refused_memory (Has version ps) = refl

-- the records of a journal, as they are placed
pub records_placed : (wide : Bool) (rs : List LogRec) (n : ℕ) → recs (as_placed (receipts_from n wide rs)) ≡ rs
records_placed wide [] n = refl
records_placed wide (r ∷ rs) n = ap (λ qs. r ∷ qs) (records_placed wide rs (n + 3 + length (text wide r)))

-- why a log is not opened is why it is not added
pub refused_by : (bytes : List ℕ) (left : Option Story) (stop : Stop) → StopsOpening bytes left stop → IsRefused (opened bytes) (refusal_of stop)
refused_by bytes left (Stop.BadInput at why) stops = refused_memory (opened bytes)
refused_by bytes left (Stop.Limit what at) stops = refused_memory (opened bytes)
refused_by bytes left (Stop.Foreign at) stops = refused_foreign (opened bytes) at stops.0
refused_by bytes left (Stop.ReadFault faults) stops = refused_memory (opened bytes)
refused_by bytes left (Stop.WriteFault faults) stops = refused_memory (opened bytes)
refused_by bytes left (Stop.DiskFault faults) stops = refused_memory (opened bytes)
refused_by bytes left Stop.NoMemory stops = refused_memory (opened bytes)

-- and an opened one is added
pub added_by : (logs : List SiteLog) (site bytes : List ℕ) (wide : Bool) (rs : List LogRec) (left : Option Story) (new : Audit) → Opens bytes wide rs left → IsAuditOf (with_log logs site rs) new → Adds logs site (opened bytes) new
added_by logs site bytes wide rs left new opens is =
    subst (λ o. Adds logs site o new) (sym opens.opens) (subst (λ qs. IsAuditOf (with_log logs site qs) new) (sym (records_placed wide rs (first_place wide))) is)
