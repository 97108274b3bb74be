use Rattle.std.proofs.Common.{◌≡◌, ◌⊎◌, ◌∙◌, ap, sym, subst, refl, Option, Some, Result, Ok, Err, List, ℕ, arith}
use Rattle.std.specs.Result.{IfErr}
use Rattle.std.proofs.lemmas.Result.{err_from_is_err_and}
use Rattle.tp_streams.specs.declared.stop.Stop.{Stop}
use Rattle.tp_streams.specs.Taken.{answer, bytes_left, IsFor, Leaves}
use Rattle.tp_audit_tool.specs.declared.hearing.Hearing.{Hearing}
use Rattle.tp_audit_tool.specs.AuditTranscript.{heard_at}
use Rattle.tp_audit_tool.specs.Audited.{StopsHearing, IsHearStop}
use Rattle.tp_audit_tool.proofs.Listening.{begins, goes_further, stops_here, stops_reading, stops_closing, is_ended, hears_all, input_kind}
use Rattle.tp_audit_tool.proofs.command.hear.Goals as goal

pub loop-hearing-init : goal.loop-hearing-init
loop-hearing-init g c = record {
  kept = omega arith;
  way = begins (g.S.Source.left c.args.source.now) c.new-intake.result c.new-hearing.result c.new-intake.ensures c.new-hearing.ensures;
}

pub returns-in_err-body-clause-stopped : goal.returns-in_err-body-clause-stopped
returns-in_err-body-clause-stopped g c =
    let start = g.S.Source.left c.args.source.now in
    let way = c.loop-hearing.invariant.way in
    let e = err_from_is_err_and c.from_residual.result c.from_residual.ensures.1 in
    subst
    (λ (r : Result Hearing Stop). IfErr r (λ stop. (bytes : List ℕ) → start ≡ Some bytes → StopsHearing bytes stop))
    (sym (e.1 ∙ ap Err e.2))
    (stops_reading start c.loop-hearing.intake (g.S.Source.left c.loop-hearing.source) c.loop-hearing.hearing c.in_err-body.field-0.0 _ _ way c.in_err-body.ensures.body (c.in_err-body.ensures.stops way.stop))

pub returns-in_err-take-clause-stopped : goal.returns-in_err-take-clause-stopped
returns-in_err-take-clause-stopped g c =
    let start = g.S.Source.left c.args.source.now in
    let left = g.S.Source.left c.loop-hearing.source in
    let rest = g.S.Source.left c.next.new.source in
    let way = c.loop-hearing.invariant.way in
    let hands = subst (λ (o : Option (List ℕ)). Leaves c.loop-hearing.intake left (Ok o) c.next.new.self rest) c.in-Some.is c.in_ok-body.ensures.leaves in
    let stop = c.in_err-take.field-0.0 in
    let e = err_from_is_err_and c.from_residual-in_err-take.result c.from_residual-in_err-take.ensures.1 in
    let reached : (heard_at c.at.result way.at c.in-Some.body ≡ Err stop) ⊎ (stop ≡ Stop.NoMemory) =
    subst (λ (b : List ℕ). (heard_at c.at.result way.at b ≡ Err stop) ⊎ (stop ≡ Stop.NoMemory)) c.as_slice.ensures (c.in_err-take.ensures.reaches way.at way.is) in
    subst
    (λ (r : Result Hearing Stop). IfErr r (λ s. (bytes : List ℕ) → start ≡ Some bytes → StopsHearing bytes s))
    (sym (e.1 ∙ ap Err e.2))
    (stops_here start c.loop-hearing.intake c.next.new.self left rest c.loop-hearing.hearing c.in-Some.body c.at.result way hands c.at.ensures stop c.in_err-take.ensures.kinds reached)

pub loop-hearing-preserved : goal.loop-hearing-preserved
loop-hearing-preserved g c =
    let start = g.S.Source.left c.args.source.now in
    let left = g.S.Source.left c.loop-hearing.source in
    let rest = g.S.Source.left c.next.new.source in
    let way = c.loop-hearing.invariant.way in
    let kept = c.loop-hearing.invariant.kept in
    let more = c.next.ensures.kept in
    let hands = subst (λ (o : Option (List ℕ)). Leaves c.loop-hearing.intake left (Ok o) c.next.new.self rest) c.in-Some.is c.in_ok-body.ensures.leaves in
    let reached = c.in_ok-take.ensures.reaches way.at way.is in
    record {
      kept = omega (arith, kept, more);
      way = goes_further start c.loop-hearing.intake c.next.new.self left rest c.loop-hearing.hearing c.take.new.self c.in-Some.body c.at.result way hands c.at.ensures
          reached.0 (ap (heard_at c.at.result way.at) (sym c.as_slice.ensures) ∙ reached.1) reached.2;
    }

pub returns-in_err-close-clause-stopped : goal.returns-in_err-close-clause-stopped
returns-in_err-close-clause-stopped g c =
    let start = g.S.Source.left c.args.source.now in
    let left = g.S.Source.left c.loop-hearing.source in
    let rest = g.S.Source.left c.next.new.source in
    let p = c.loop-hearing.intake in
    let way = c.loop-hearing.invariant.way in
    let for = subst (λ (o : Option (List ℕ)). IsFor (answer p) (bytes_left p left) (Ok o)) c.in_default.is c.in_ok-body.ensures.body in
    let ends = subst (λ (o : Option (List ℕ)). Leaves p left (Ok o) c.next.new.self rest) c.in_default.is c.in_ok-body.ensures.leaves in
    let e = err_from_is_err_and c.from_residual-in_err-close.result c.from_residual-in_err-close.ensures.1 in
    subst
    (λ (r : Result Hearing Stop). IfErr r (λ stop. (bytes : List ℕ) → start ≡ Some bytes → StopsHearing bytes stop))
    (sym (e.1 ∙ ap Err e.2))
    (stops_closing start way.at rest 1 c.in_err-close.field-0.0 (is_ended start p c.next.new.self left rest c.loop-hearing.hearing way for ends) (c.in_err-close.ensures.kinds 1) (c.in_err-close.ensures.reaches way.at way.is))

pub returns-clause-heard : goal.returns-clause-heard
returns-clause-heard g c =
    let start = g.S.Source.left c.args.source.now in
    let left = g.S.Source.left c.loop-hearing.source in
    let rest = g.S.Source.left c.next.new.source in
    let p = c.loop-hearing.intake in
    let way = c.loop-hearing.invariant.way in
    let for = subst (λ (o : Option (List ℕ)). IsFor (answer p) (bytes_left p left) (Ok o)) c.in_default.is c.in_ok-body.ensures.body in
    let ends = subst (λ (o : Option (List ℕ)). Leaves p left (Ok o) c.next.new.self rest) c.in_default.is c.in_ok-body.ensures.leaves in
    let reached = c.in_ok-close.ensures.reaches way.at way.is in
    hears_all start way.at reached.0 rest c.close.new.self (is_ended start p c.next.new.self left rest c.loop-hearing.hearing way for ends) reached.1 reached.2

pub returns-in_err-close-clause-stops : goal.returns-in_err-close-clause-stops
returns-in_err-close-clause-stops g c =
    let e = err_from_is_err_and c.from_residual-in_err-close.result c.from_residual-in_err-close.ensures.1 in
    let old = g.S.Source.fault_count c.args.source.now in
    let new = g.S.Source.fault_count c.next.new.source in
    subst (λ (r : Result Hearing Stop). IfErr r (IsHearStop old new)) (sym (e.1 ∙ ap Err e.2)) (input_kind 0 1 old new c.in_err-close.field-0.0 refl (c.in_err-close.ensures.kinds 1))
