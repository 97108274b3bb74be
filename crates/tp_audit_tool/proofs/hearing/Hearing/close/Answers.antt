use Rattle.std.proofs.Common.{◌≡◌, subst, sym, refl, ◌∙◌, false, List}
use Rattle.std.specs.Result.{OnOk, IfErr}
use Rattle.tp_model.specs.LogCommands.{opened}
use Rattle.tp_audit.specs.Audits.{IsAuditOf, is_added}
use Rattle.tp_audit.specs.Entries.{SiteLog}
use Rattle.tp_audit_tool.specs.Adding.{Adds, IsRefused}
use Rattle.tp_audit_tool.proofs.Progress.{closes}
use Rattle.tp_audit_tool.proofs.hearing.Hearing.close.Goals as goal

pub returns-clause-reaches : goal.returns-clause-reaches
returns-clause-reaches c = λ p is.
    let o = c.in-Some.log in
    closes p c.args.self.now _ o c.add_log.result is (sym c.take.ensures.value ∙ c.in-Some.is) c.take.ensures.after refl refl
    (λ file missing done. subst (λ r. OnOk r ((logs : List SiteLog) → is_added logs o.site ≡ false → IsAuditOf logs c.args.self.now.audit → Adds logs o.site (opened o.bytes) c.add_log.new.audit)) done (c.add_log.ensures.ok file) p.logs missing is.audit)
    (λ file stop failed. subst (λ r. IfErr r (IsRefused (opened o.bytes))) failed (c.add_log.ensures.err file))
    c.args.self.now.small
