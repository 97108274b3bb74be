use Rattle.std.proofs.Common.{◌≡◌, ◌∙◌, subst, sym, Ok, Err}
use Rattle.std.specs.Result.{IfOk}
use Rattle.std.specs.Prelude.{List}
use Rattle.tp_audit.specs.Entries.{SiteLog}
use Rattle.tp_audit.specs.Mismatches.{mismatches_of}
use Rattle.tp_audit.specs.Audits.{IsAuditOf, mismatches_in}
use Rattle.tp_audit.proofs.Mismatching.{mismatches_told}
use Rattle.tp_audit.proofs.audit.Audit.mismatches.Goals as goal

pub returns : goal.returns
returns c = elim c.mismatches_in.result as (λ r. IfOk r (λ found. found.items ≡ mismatches_in c.self.inside.sites.entries c.self.inside.ledger c.args.fates.now)
    → IfOk r (λ found. (logs : List SiteLog) → IsAuditOf logs c.args.self.now → found.items ≡ mismatches_of logs c.args.fates.now)) [
      | Ok v ↦ λ is logs audit. is ∙ mismatches_told logs _ c.args.fates.now (subst (IsAuditOf logs) (sym c.self.view_is) audit)
      | Err e ↦ λ is. tt
    ] c.mismatches_in.ensures
