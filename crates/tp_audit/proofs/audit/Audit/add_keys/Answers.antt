use Rattle.std.proofs.Common.{subst, sym}
use Rattle.tp_audit.specs.Entries.{keys_of, entries}
use Rattle.tp_audit.specs.Audits.{IsAuditOf}
use Rattle.tp_audit.proofs.Judging.{taken_log}
use Rattle.tp_audit.proofs.audit.Audit.add_keys.Goals as goal

pub returns-clause-ok : goal.returns-clause-ok
returns-clause-ok c = λ logs missing is.
    let old = subst (IsAuditOf logs) (sym c.self.view_is) is in
    let kept = c.in_ok-reserve.ensures.same (entries logs) old.ledger in
    taken_log logs c.args.site.now c.args.list.now (record { recalled = c.in_ok-recalled.recalled; roots = c.in_ok-roots.roots }) _ _ missing (record { recalled = c.in_ok-recalled.ensures; roots = c.in_ok-roots.ensures }) old
    c.in_ok-insert.ensures.updates.0
    (c.enter_all.ensures (entries logs) (keys_of c.args.list.now) kept c.requires)
