use Rattle.std.proofs.Common.{◌≡◌, ◌∙◌, ap, subst, sym, Ok, Err}
use Rattle.std.specs.Result.{IfOk}
use Rattle.std.specs.Prelude.{List}
use Rattle.tp_audit.specs.Entries.{SiteLog}
use Rattle.tp_audit.specs.Fates.{fates}
use Rattle.tp_audit.specs.Audits.{IsAuditOf, fates_in}
use Rattle.tp_audit.proofs.Judging.{fates_told}
use Rattle.tp_audit.proofs.audit.Audit.fates.Goals as goal

pub returns : goal.returns
returns c = elim c.fates_in.result as (λ r. IfOk r (λ found. found.items ≡ fates_in c.self.inside.sites.entries c.doubts.result.now)
    → IfOk r (λ found. (logs : List SiteLog) → IsAuditOf logs c.args.self.now → found.items ≡ fates logs)) [
      | Ok v ↦ λ is logs audit. is ∙ ap (fates_in c.self.inside.sites.entries) c.doubts.ensures ∙ fates_told logs _ (subst (IsAuditOf logs) (sym c.self.view_is) audit)
      | Err e ↦ λ is. tt
    ] c.fates_in.ensures
