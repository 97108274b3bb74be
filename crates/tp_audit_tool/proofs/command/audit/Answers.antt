use Rattle.std.proofs.Common.{◌≡◌, ◌++◌, ◌∷◌, ◌∙◌, ap, sym, subst, Some, Result, Err, List, ℕ}
use Rattle.std.specs.Result.{IfErr}
use Rattle.std.proofs.lemmas.Result.{err_from_is_err_and}
use Rattle.tp_streams.specs.declared.stop.Stop.{Stop}
use Rattle.tp_streams.specs.Written.{WritesPrefix}
use Rattle.tp_audit.specs.declared.verdict.Verdict.{Verdict}
use Rattle.tp_audit.specs.declared.fate.Fate.{Fate}
use Rattle.tp_audit.specs.Audits.{IsAuditOf}
use Rattle.tp_audit.specs.Mismatches.{mismatches_of}
use Rattle.tp_audit_tool.specs.declared.command.Audited.{Audited}
use Rattle.tp_audit_tool.specs.AuditTranscript.{findings_of}
use Rattle.tp_audit_tool.specs.Audited.{StopsAudit}
use Rattle.tp_audit_tool.proofs.Writing.{text_is, stops_writing}
use Rattle.tp_audit_tool.proofs.command.audit.Goals as goal

pub returns-in_err-write_all-clause-stopped : goal.returns-in_err-write_all-clause-stopped
returns-in_err-write_all-clause-stopped g c =
    let start = g.S.Source.left c.args.source.now in
    let old = g.K.Sink.written c.args.sink.now in
    let new = g.K.Sink.written c.write_all.new.sink in
    let e = err_from_is_err_and c.from_residual-in_err-write_all.result c.from_residual-in_err-write_all.ensures.1 in
    subst
    (λ (r : Result Audited Stop). IfErr r (λ stop. (bytes : List ℕ) → start ≡ Some bytes → StopsAudit bytes old new stop))
    (sym (e.1 ∙ ap Err e.2))
    (λ bytes there.
    let hears = c.in_ok-hearing.ensures.heard bytes there in
    let logs = hears.logs in
    let judged = subst (IsAuditOf logs) (sym c.audit-judge.ensures) hears.is in
    let is_verdict = c.verdict-verdict.ensures logs judged in
    let is_fates = c.as_slice-fates.ensures.value ∙ c.in_ok-doubts.ensures logs judged in
    let is_text = c.in_ok-text.ensures ∙ text_is logs _ _ is_verdict is_fates in
    stops_writing bytes old new _ _ c.in_err-write_all.field-0.0 c.in_err-write_all.ensures.fault (record {
      logs = logs;
      heard = hears.heard;
      written = λ before is. subst (λ (t : List ℕ). WritesPrefix before t new) (c.as_slice.ensures ∙ is_text) (c.in_err-write_all.ensures.prefix before is);
    }))

pub returns-clause-audits : goal.returns-clause-audits
returns-clause-audits g c = λ bytes there.
    let hears = c.in_ok-hearing.ensures.heard bytes there in
    let logs = hears.logs in
    let judged = subst (IsAuditOf logs) (sym c.audit-judge.ensures) hears.is in
    let is_verdict = c.verdict-verdict.ensures logs judged in
    let is_fates = c.as_slice-fates.ensures.value ∙ c.in_ok-doubts.ensures logs judged in
    let is_text = c.in_ok-text.ensures ∙ text_is logs _ _ is_verdict is_fates in
    record {
      logs = logs;
      heard = hears.heard;
      count = c.findings_of.ensures ∙ ap (λ (v : Verdict). findings_of v) is_verdict;
      written = λ before is. c.in_ok-write_all.ensures.whole before is ∙ ap (λ (t : List ℕ). Some (before ++ t)) (c.as_slice.ensures ∙ is_text);
      whole = hears.whole;
    }

pub returns-clause-mismatches : goal.returns-clause-mismatches
returns-clause-mismatches g c = λ bytes there.
    let hears = c.in_ok-hearing.ensures.heard bytes there in
    let logs = hears.logs in
    let judged = subst (IsAuditOf logs) (sym c.audit-judge.ensures) hears.is in
    let is_fates = c.as_slice-fates.ensures.value ∙ c.in_ok-doubts.ensures logs judged in
    record {
      logs = logs;
      heard = hears.heard;
      named = c.in_ok-mismatches.ensures logs judged ∙ ap (λ (fs : List Fate). mismatches_of logs fs) is_fates;
    }
