use Rattle.std.proofs.Common.{◌<◌, Some, Result, Err, List, ℕ, ap, refl, sym, subst, ◌∙◌, arith}
use Rattle.std.specs.Result.{IfErr}
use Rattle.std.proofs.lemmas.Result.{err_from_is_err_and}
use Rattle.tp_streams.specs.declared.stop.Stop.{Stop}
use Rattle.tp_audit_tool.specs.Audited.{IsOfInput}
use Rattle.tp_audit_tool.specs.declared.hearing.OpenLog.{OpenLog}
use Rattle.tp_audit_tool.proofs.Progress.{opens, none_open}
use Rattle.tp_audit_tool.proofs.hearing.Hearing.open.Goals as goal

pub returns-clause-reaches : goal.returns-clause-reaches
returns-clause-reaches c = λ p is.
    let reached = c.in_ok-close.ensures.reaches p is in
    let mid = c.close.new.self in
    let most = mid.few in
    let not_all = c.if-self-eq-MOST_SITES.false in
    let few : mid.sites < 16 = omega (arith, most, not_all) in
    opens c.args.at p reached.0 c.args.site.now mid _ reached.1 reached.2 (none_open p reached.0 reached.1)
    (sym (c.contains.ensures reached.0.logs reached.2.audit) ∙ c.if-contains.false) few refl
    (ap (λ (b : List ℕ). let l : OpenLog = record { site = c.args.site.now; bytes = b } in Some l) c.new.ensures) refl refl

pub returns-in_err-close-clause-kinds : goal.returns-in_err-close-clause-kinds
returns-in_err-close-clause-kinds c =
    let e = err_from_is_err_and c.from_residual.result c.from_residual.ensures.1 in
    subst (λ (r : Result (Unit {0}) Stop). IfErr r (IsOfInput c.args.at)) (sym (e.1 ∙ ap Err e.2)) (c.in_err-close.ensures.kinds c.args.at)
