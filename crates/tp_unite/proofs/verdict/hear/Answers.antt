-- Frame by frame, and the end.
use Rattle.std.specs.Result.{IfErr}
use Rattle.std.proofs.lemmas.Result.{err_from_is_err_and}
use Rattle.tp_streams.specs.declared.stop.Stop.{Stop}
use Rattle.tp_unite.specs.declared.verdict.Heard.{Heard}
use Rattle.std.proofs.Common.{Option, Result, Ok, Err, List, ℕ, suc, ap, sym, ◌∙◌, subst, arith}
use Rattle.tp_streams.specs.Taken.{answer, bytes_left, IsFor, Leaves}
use Rattle.tp_weaving.specs.Frames.{told_body}
use Rattle.tp_unite.specs.declared.recording.HearFault.{HearFault}
use Rattle.tp_unite.specs.Endings.{body_ending}
use Rattle.tp_unite.specs.Recording.{Answers, IsStopAt, Misplaces}
use Rattle.tp_unite.specs.Verdicts.{TellsMisplaced, Stops}
use Rattle.tp_unite.proofs.Listening.{begins, goes_further, ends, misplaced_at, frame_stops, source_stops}
use Rattle.tp_unite.proofs.verdict.hear.Goals as goal

pub frames-init : goal.frames-init
frames-init g c = record {
  kept = omega arith;
  way = begins (g.S.Source.left c.args.source.now) c.new-intake.result c.new-recording.result c.new-intake.ensures c.new-recording.ensures;
}

pub frames-preserved : goal.frames-preserved
frames-preserved g c =
    let left = g.S.Source.left c.frames.source in
    let rest = g.S.Source.left c.next.new.source in
    let way = c.frames.invariant.way in
    let hands = subst (λ (o : Option (List ℕ)). Leaves c.frames.intake left (Ok o) c.next.new.self rest) c.in-Some.is (c.in_ok-body.ensures {u = tt}).leaves in
    let number = c.at-at.ensures ∙ hands.at ∙ ap suc way.count in
    let comes = subst (λ (b : List ℕ). Answers c.at-at.result (body_ending way.at b) (told_body way.at b) (Misplaces way.at b) (Ok tt) c.take.new.self) c.as_slice.ensures (c.in-Ok.ensures {u = tt} way.at way.is number) in
    record {
      kept = omega (arith, c.frames.invariant.kept, c.next.ensures.kept);
      way = goes_further (g.S.Source.left c.args.source.now) c.frames.intake c.next.new.self left rest c.frames.recording c.take.new.self c.in-Some.body way hands comes;
    }

pub returns-in_default-clause-hears : goal.returns-in_default-clause-hears
returns-in_default-clause-hears g c = λ bytes there.
    let left = g.S.Source.left c.frames.source in
    let p = c.frames.intake in
    let for = subst (λ (o : Option (List ℕ)). IsFor (answer p) (bytes_left p left) (Ok o)) c.in_default.is (c.in_ok-body.ensures {u = tt}).body in
    ends (g.S.Source.left c.args.source.now) p left c.frames.recording c.frames.invariant.way for bytes there

pub returns-in-Err-NotPlaced-clause-hears : goal.returns-in-Err-NotPlaced-clause-hears
returns-in-Err-NotPlaced-clause-hears g c = λ bytes there.
    let left = g.S.Source.left c.frames.source in
    let rest = g.S.Source.left c.next.new.source in
    let way = c.frames.invariant.way in
    let hands = subst (λ (o : Option (List ℕ)). Leaves c.frames.intake left (Ok o) c.next.new.self rest) c.in-Some.is (c.in_ok-body.ensures {u = tt}).leaves in
    let number = c.at-at.ensures ∙ hands.at ∙ ap suc way.count in
    let answers = subst (λ (b : List ℕ). Answers c.at-at.result (body_ending way.at b) (told_body way.at b) (Misplaces way.at b) (Err c.in-Err-NotPlaced.field-0) c.take.new.self) c.as_slice.ensures (c.in-Err-NotPlaced.ensures {u = tt} way.at way.is number) in
    let misplaced = subst (λ (f : HearFault). Answers c.at-at.result (body_ending way.at c.in-Some.body) (told_body way.at c.in-Some.body) (Misplaces way.at c.in-Some.body) (Err f) c.take.new.self) c.in-Err-NotPlaced.field-0-is answers in
    subst (TellsMisplaced bytes) (sym c.at-at.ensures) (misplaced_at (g.S.Source.left c.args.source.now) c.frames.intake c.next.new.self left rest c.frames.recording c.in-Some.body way hands misplaced bytes there)

pub returns-in-Err-Stop-clause-stops : goal.returns-in-Err-Stop-clause-stops
returns-in-Err-Stop-clause-stops g c =
    let left = g.S.Source.left c.frames.source in
    let rest = g.S.Source.left c.next.new.source in
    let way = c.frames.invariant.way in
    let hands = subst (λ (o : Option (List ℕ)). Leaves c.frames.intake left (Ok o) c.next.new.self rest) c.in-Some.is (c.in_ok-body.ensures {u = tt}).leaves in
    let number = c.at-at.ensures ∙ hands.at ∙ ap suc way.count in
    let answers = subst (λ (b : List ℕ). Answers c.at-at.result (body_ending way.at b) (told_body way.at b) (Misplaces way.at b) (Err c.in-Err-Stop.field-0) c.take.new.self) c.as_slice.ensures (c.in-Err-Stop.ensures {u = tt} way.at way.is number) in
    let stops = subst (λ (f : HearFault). Answers c.at-at.result (body_ending way.at c.in-Some.body) (told_body way.at c.in-Some.body) (Misplaces way.at c.in-Some.body) (Err f) c.take.new.self) c.in-Err-Stop.field-0-is answers in
    subst (Stops (g.S.Source.left c.args.source.now) (g.S.Source.fault_count c.args.source.now) (g.S.Source.fault_count c.next.new.source)) (sym c.in-Err-Stop.stop-is)
    (frame_stops (g.S.Source.left c.args.source.now) c.frames.intake c.next.new.self left rest c.frames.recording c.in-Some.body way (g.S.Source.fault_count c.args.source.now) (g.S.Source.fault_count c.next.new.source) c.in-Err-Stop.stop hands
    (subst (λ (n : ℕ). IsStopAt n (body_ending way.at c.in-Some.body) c.in-Err-Stop.stop) c.at-at.ensures stops))

pub returns-in_err-body-clause-stops : goal.returns-in_err-body-clause-stops
returns-in_err-body-clause-stops g c =
    let told = c.in_err-body.ensures {u = tt} in
    let e = err_from_is_err_and c.from_residual.result c.from_residual.ensures.1 in
    subst
    (λ (r : Result Heard Stop). IfErr r (Stops (g.S.Source.left c.args.source.now) (g.S.Source.fault_count c.args.source.now) (g.S.Source.fault_count c.next.new.source)))
    (sym (e.1 ∙ ap Err e.2))
    (source_stops (g.S.Source.left c.args.source.now) c.frames.intake (g.S.Source.left c.frames.source) c.frames.recording c.frames.invariant.way (g.S.Source.fault_count c.args.source.now) (g.S.Source.fault_count c.frames.source) (g.S.Source.fault_count c.next.new.source) c.in_err-body.field-0.0
    c.frames.invariant.kept told.body (told.stops c.frames.invariant.way.stop))
