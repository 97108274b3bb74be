use Rattle.std.proofs.Common.{◌∙◌, subst, sym}
use Rattle.tp_audit.specs.Audits.{IsAuditOf}
use Rattle.tp_audit.proofs.Judging.{verdict_told}
use Rattle.tp_audit.proofs.audit.Audit.verdict.Goals as goal

pub returns : goal.returns
returns c = λ logs is. c.verdict.ensures ∙ verdict_told logs _ (subst (IsAuditOf logs) (sym c.self.view_is) is)
