-- The lines of an audit, and why they were not all written.
use Rattle.std.proofs.Common.{◌≡◌, ◌∙◌, ap, ℕ, Option, List, ◌∷◌, ◌++◌}
use Rattle.tp_model.specs.Words.{words}
use Rattle.tp_audit.specs.declared.fate.Fate.{Fate}
use Rattle.tp_audit.specs.declared.verdict.Verdict.{Verdict}
use Rattle.tp_audit.specs.Entries.{SiteLog}
use Rattle.tp_audit.specs.Fates.{fates}
use Rattle.tp_audit.specs.Verdicts.{verdict}
use Rattle.tp_audit_tool.specs.AuditTranscript.{verdict_words, fate_texts, audit_text}
use Rattle.tp_streams.specs.declared.stop.Stop.{Stop}
use Rattle.tp_streams.specs.Stops.{IsWriteStop}
use Rattle.tp_audit_tool.specs.Audited.{AuditsPart, StopsAudit}

-- of this verdict and these fates
pub text_is : (logs : List SiteLog) (v : Verdict) (fs : List Fate) → v ≡ verdict logs → fs ≡ fates logs → words (verdict_words v) ++ 10 ∷ fate_texts fs ≡ audit_text logs
text_is logs v fs is are = ap (λ (u : Verdict). words (verdict_words u) ++ 10 ∷ fate_texts fs) is ∙ ap (λ (gs : List Fate). words (verdict_words (verdict logs)) ++ 10 ∷ fate_texts gs) are

pub stops_writing : (bytes : List ℕ) (old new : Option (List ℕ)) (before after : ℕ) (stop : Stop) → IsWriteStop before after stop → AuditsPart bytes old new → StopsAudit bytes old new stop
stops_writing bytes old new before after (Stop.BadInput at why) stops part = absurd stops
stops_writing bytes old new before after (Stop.Limit what at) stops part = absurd stops
stops_writing bytes old new before after (Stop.Foreign at) stops part = absurd stops
stops_writing bytes old new before after (Stop.ReadFault faults) stops part = absurd stops
stops_writing bytes old new before after (Stop.WriteFault faults) stops part = part
stops_writing bytes old new before after (Stop.DiskFault faults) stops part = stops
stops_writing bytes old new before after Stop.NoMemory stops part = absurd stops
