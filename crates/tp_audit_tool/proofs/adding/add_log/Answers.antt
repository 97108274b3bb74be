use Rattle.std.proofs.Common.{◌≡◌, refl, subst, sym, ap, Some}
use Rattle.tp_outside.specs.Story.{seen}
use Rattle.tp_outside.specs.MemDisk.{Recorded, recorded}
use Rattle.tp_log_tools.specs.Readings.{IsFile}
use Rattle.tp_log_tools.specs.Opening.{StopsOpening, Opens}
use Rattle.tp_audit.specs.Audits.{IsAuditOf, with_log}
use Rattle.tp_model.specs.LogCommands.{opened}
use Rattle.tp_audit_tool.specs.Adding.{IsRefused}
use Rattle.tp_audit_tool.proofs.Added.{refused_by, added_by}
use Rattle.tp_audit_tool.proofs.adding.add_log.Goals as goal

pub returns-in-Err-clause-err : goal.returns-in-Err-clause-err
returns-in-Err-clause-err c = λ file.
    let bytes = c.args.bytes in
    let is : seen (recorded c.from.result).story ≡ bytes = ap (λ (r : Recorded). seen r.story) c.from.ensures in
    let why = c.in-Err.ensures.refused _ refl (subst IsFile (sym is) file) in
    subst (IsRefused (opened bytes)) (sym c.refusal_of.ensures.value) (refused_by bytes (Some (recorded c.in-Err._disk).story) c.in-Err.stop (subst (λ b. StopsOpening b (Some (recorded c.in-Err._disk).story) c.in-Err.stop) is why))

pub returns-clause-ok : goal.returns-clause-ok
returns-clause-ok c = λ file logs new is.
    let bytes = c.args.bytes in
    let same : seen (recorded c.from.result).story ≡ bytes = ap (λ (r : Recorded). seen r.story) c.from.ensures in
    let opens = c.in-Ok.ensures.opens _ refl (subst IsFile (sym same) file) in
    added_by logs c.args.site.now bytes c.in-Ok.journal.wide c.in-Ok.journal.list (Some (recorded c.in-Ok.journal.disk).story) _ (subst (λ b. Opens b c.in-Ok.journal.wide c.in-Ok.journal.list (Some (recorded c.in-Ok.journal.disk).story)) same opens)
    (subst (λ rs. IsAuditOf (with_log logs c.args.site.now rs) c.add_in_order.new.self) c.list.ensures.is (c.in_ok-add_in_order.ensures.ok logs new is))
