-- Each frame is answered, up to the one at which it stops.
use Rattle.std.proofs.Common.{◌≡◌, ◌<◌, ℕ, Option, None, Result, Ok, Err, List, [], refl, sym, ap, subst, arith, rules}
use Rattle.std.specs.Prelude.{IfErr}
use Rattle.tp_streams.specs.declared.stop.Stop.{Stop}
use Rattle.tp_streams.specs.Taken.{Place, Leaves, HandsOut, IsFor, answer, bytes_left}
use Rattle.tp_serve.specs.Serving.{IsEventsStop}
use Rattle.tp_serve.proofs.Endings.{finish_stop}
use Rattle.tp_tx.specs.Progress.{AnswersBody, HasRun}
use Rattle.tp_tx.specs.Running.{EndsRunning}
use Rattle.tp_tx.proofs.Looping.{first_run, kept_up, not_kept_up, run_on, stopped, ended_so, cut_so, through}
use Rattle.tp_tx.proofs.Stopping.{read_stop, body_stop}
use Rattle.tp_tx.proofs.serving.answer_frames.Goals as goal

-- ---- at first

pub frames-init : goal.frames-init
frames-init g c =
    let standing = g.J.Keeper.standing in
    let left = g.S.Source.left c.args.source.now in
    let written = g.K.Sink.written c.args.sink.now in
    let face = c.args.face.now in
    record {
      run = λ o begun faults running rests.
          subst (λ (w : List ℕ). HasRun standing o begun faults c.new-intake.result 0 left left written written w face) (sym c.new-waiting.ensures)
          (subst (λ (p : Place). HasRun standing o begun faults p 0 left left written written [] face) (sym c.new-intake.ensures) (first_run standing o begun faults left written face running rests));
      unstopped = ap (λ (p : Place). p.stop) c.new-intake.ensures;
      few = omega arith;
      read = omega arith;
      kept = omega arith;
    }

-- ---- nothing is read before all is settled

pub returns-in_err-keep_up-clause-answers : goal.returns-in_err-keep_up-clause-answers
returns-in_err-keep_up-clause-answers g c =
    let stop = c.in_err-keep_up.field-0.0 in
    let fault : c.from_residual.result ≡ Err stop = search rules in
    λ o begun faults running rests.
    let rest = g.S.Source.left c.frames.source in
    let now = g.K.Sink.written c.keep_up.new.sink in
    subst (λ (r : Result (Unit {0}) Stop). EndsRunning g.J.Keeper.standing o begun faults (g.S.Source.left c.args.source.now) rest (g.K.Sink.written c.args.sink.now) now r c.keep_up.new.face) (sym fault)
    (not_kept_up g.J.Keeper.standing o begun faults (g.S.Source.left c.args.source.now) (g.K.Sink.written c.args.sink.now) c.frames.intake c.frames.declares rest (g.K.Sink.written c.frames.sink) c.frames.waiting c.frames.face
    (c.frames.invariant.run o begun faults running rests) (Err stop) c.keep_up.new.waiting now c.keep_up.new.face _ _ (c.in_err-keep_up.ensures {u = tt}).keeps stop rest refl)

-- ---- no frame comes

pub returns-in-Ok-None-clause-answers : goal.returns-in-Ok-None-clause-answers
returns-in-Ok-None-clause-answers g c o begun faults running rests =
    let standing = g.J.Keeper.standing in
    let left = g.S.Source.left c.args.source.now in
    let rest = g.S.Source.left c.frames.source in
    let written = g.K.Sink.written c.args.sink.now in
    let output = g.K.Sink.written c.keep_up.new.sink in
    let run = kept_up standing o begun faults left written c.frames.intake c.frames.declares rest (g.K.Sink.written c.frames.sink) c.frames.waiting c.frames.face (c.frames.invariant.run o begun faults running rests) (Ok tt) c.keep_up.new.waiting output c.keep_up.new.face _ _ (c.in_ok-keep_up.ensures {u = tt}).keeps refl in
    let none : IsFor (answer c.frames.intake) (bytes_left c.frames.intake rest) (Ok None) =
    subst (λ (x : Option (List ℕ)). IsFor (answer c.frames.intake) (bytes_left c.frames.intake rest) (Ok x)) c.in-Ok-None.field-0-is (c.in-Ok-None.ensures {u = tt}).body in
    ended_so standing o begun faults left written c.frames.intake c.frames.declares rest output c.keep_up.new.waiting c.keep_up.new.face run (g.S.Source.left c.next.new.source) (g.K.Sink.written c.finish.new.sink) c.finish.new.face c.finish.result _ _
    c.frames.invariant.unstopped none c.finish.ensures.finishes

pub returns-in-Err-clause-answers : goal.returns-in-Err-clause-answers
returns-in-Err-clause-answers g c o begun faults running rests =
    let standing = g.J.Keeper.standing in
    let left = g.S.Source.left c.args.source.now in
    let rest = g.S.Source.left c.frames.source in
    let written = g.K.Sink.written c.args.sink.now in
    let output = g.K.Sink.written c.keep_up.new.sink in
    let run = kept_up standing o begun faults left written c.frames.intake c.frames.declares rest (g.K.Sink.written c.frames.sink) c.frames.waiting c.frames.face (c.frames.invariant.run o begun faults running rests) (Ok tt) c.keep_up.new.waiting output c.keep_up.new.face _ _ (c.in_ok-keep_up.ensures {u = tt}).keeps refl in
    let said = c.in-Err.ensures {u = tt} in
    cut_so standing o begun faults left written c.frames.intake c.frames.declares rest output c.keep_up.new.waiting c.keep_up.new.face run (g.S.Source.left c.next.new.source) (g.K.Sink.written c.finish-in-Err.new.sink) c.finish-in-Err.new.face c.finish-in-Err.result _ _
    c.next.new.self c.in-Err.stop _ _ c.frames.invariant.unstopped said.body (said.stops c.frames.invariant.unstopped) (λ n is. said.cut_off n c.frames.invariant.unstopped is) c.finish-in-Err.ensures.finishes

pub returns-in-Err-clause-stops : goal.returns-in-Err-clause-stops
returns-in-Err-clause-stops g c =
    let fin = c.finish-in-Err.ensures.finishes in
    subst (λ (r : Result (Unit {0}) Stop). IfErr r (IsEventsStop (g.S.Source.fault_count c.args.source.now) (g.S.Source.fault_count c.next.new.source) (g.K.Sink.fault_count c.args.sink.now) (g.K.Sink.fault_count c.finish-in-Err.new.sink))) (sym fin.is)
    (finish_stop _ _ (g.K.Sink.fault_count c.args.sink.now) (g.K.Sink.fault_count c.keep_up.new.sink) _ fin.settled (Err c.in-Err.stop) (omega (arith, c.frames.invariant.kept, (c.in_ok-keep_up.ensures {u = tt}).kept)) fin.settles.stops
    (read_stop c.frames.intake.at (g.S.Source.fault_count c.args.source.now) (g.S.Source.fault_count c.frames.source) (g.S.Source.fault_count c.next.new.source) _ _ c.in-Err.stop c.frames.invariant.read ((c.in-Err.ensures {u = tt}).stops c.frames.invariant.unstopped)))

-- ---- a frame that is not answered

pub returns-in-Err-answer_body-clause-answers : goal.returns-in-Err-answer_body-clause-answers
returns-in-Err-answer_body-clause-answers g c o begun faults running rests =
    let standing = g.J.Keeper.standing in
    let left = g.S.Source.left c.args.source.now in
    let rest = g.S.Source.left c.frames.source in
    let unread = g.S.Source.left c.next.new.source in
    let written = g.K.Sink.written c.args.sink.now in
    let output = g.K.Sink.written c.keep_up.new.sink in
    let waiting = c.keep_up.new.waiting in
    let face = c.keep_up.new.face in
    let stop = c.in-Err-answer_body.stop in
    let run = kept_up standing o begun faults left written c.frames.intake c.frames.declares rest (g.K.Sink.written c.frames.sink) c.frames.waiting c.frames.face (c.frames.invariant.run o begun faults running rests) (Ok tt) waiting output face _ _ (c.in_ok-keep_up.ensures {u = tt}).keeps refl in
    let hands : HandsOut c.frames.intake rest c.in-Ok-Some.body c.next.new.self unread =
    subst (λ (x : Option (List ℕ)). Leaves c.frames.intake rest (Ok x) c.next.new.self unread) c.in-Ok-Some.field-0-is (c.in-Ok-Some.ensures {u = tt}).leaves in
    let said = c.in-Err-answer_body.ensures {u = tt} in
    let one : AnswersBody standing o run.all None faults c.next.new.self.at c.frames.declares c.in-Ok-Some.body (Err stop) c.answer_body.new.face c.answer_body.new.declares waiting c.answer_body.new.waiting =
    subst (λ (b : List ℕ). AnswersBody standing o run.all None faults c.next.new.self.at c.frames.declares b (Err stop) c.answer_body.new.face c.answer_body.new.declares waiting c.answer_body.new.waiting) c.as_slice.ensures
    (subst (λ (n : ℕ). AnswersBody standing o run.all None faults n c.frames.declares c.as_slice.result.now (Err stop) c.answer_body.new.face c.answer_body.new.declares waiting c.answer_body.new.waiting) c.at.ensures (said.answers o run.all None faults run.running)) in
    stopped standing o begun faults left written c.frames.intake c.frames.declares rest output waiting face run c.in-Ok-Some.body c.next.new.self unread hands c.answer_body.new.waiting c.answer_body.new.face said.lasting
    (g.K.Sink.written c.finish-in-Err-answer_body.new.sink) c.finish-in-Err-answer_body.new.face c.finish-in-Err-answer_body.result c.answer_body.new.declares _ _ stop one c.finish-in-Err-answer_body.ensures.finishes

pub returns-in-Err-answer_body-clause-stops : goal.returns-in-Err-answer_body-clause-stops
returns-in-Err-answer_body-clause-stops g c =
    let fin = c.finish-in-Err-answer_body.ensures.finishes in
    let hands : HandsOut c.frames.intake (g.S.Source.left c.frames.source) c.in-Ok-Some.body c.next.new.self (g.S.Source.left c.next.new.source) =
    subst (λ (x : Option (List ℕ)). Leaves c.frames.intake (g.S.Source.left c.frames.source) (Ok x) c.next.new.self (g.S.Source.left c.next.new.source)) c.in-Ok-Some.field-0-is (c.in-Ok-Some.ensures {u = tt}).leaves in
    let far : 0 < c.at.result = omega (arith, c.at.ensures, hands.at) in
    subst (λ (r : Result (Unit {0}) Stop). IfErr r (IsEventsStop (g.S.Source.fault_count c.args.source.now) (g.S.Source.fault_count c.next.new.source) (g.K.Sink.fault_count c.args.sink.now) (g.K.Sink.fault_count c.finish-in-Err-answer_body.new.sink))) (sym fin.is)
    (finish_stop _ _ (g.K.Sink.fault_count c.args.sink.now) (g.K.Sink.fault_count c.keep_up.new.sink) _ fin.settled (Err c.in-Err-answer_body.stop) (omega (arith, c.frames.invariant.kept, (c.in_ok-keep_up.ensures {u = tt}).kept)) fin.settles.stops
    (body_stop c.at.result _ _ _ _ c.in-Err-answer_body.stop far (c.in-Err-answer_body.ensures {u = tt}).stops))

-- ---- one frame more

pub frames-preserved : goal.frames-preserved
frames-preserved g c =
    let standing = g.J.Keeper.standing in
    let rest = g.S.Source.left c.frames.source in
    let unread = g.S.Source.left c.next.new.source in
    let output = g.K.Sink.written c.keep_up.new.sink in
    let waiting = c.keep_up.new.waiting in
    let hands : HandsOut c.frames.intake rest c.in-Ok-Some.body c.next.new.self unread =
    subst (λ (x : Option (List ℕ)). Leaves c.frames.intake rest (Ok x) c.next.new.self unread) c.in-Ok-Some.field-0-is (c.in-Ok-Some.ensures {u = tt}).leaves in
    let said = c.answer_body.ensures in
    record {
      run = λ o begun faults running rests.
          let left = g.S.Source.left c.args.source.now in
          let written = g.K.Sink.written c.args.sink.now in
          let run = kept_up standing o begun faults left written c.frames.intake c.frames.declares rest (g.K.Sink.written c.frames.sink) c.frames.waiting c.frames.face (c.frames.invariant.run o begun faults running rests) (Ok tt) waiting output c.keep_up.new.face _ _ (c.in_ok-keep_up.ensures {u = tt}).keeps refl in
          let one : AnswersBody standing o run.all None faults c.next.new.self.at c.frames.declares c.in-Ok-Some.body (Ok tt) c.answer_body.new.face c.answer_body.new.declares waiting c.answer_body.new.waiting =
          subst (λ (r : Result (Unit {0}) Stop). AnswersBody standing o run.all None faults c.next.new.self.at c.frames.declares c.in-Ok-Some.body r c.answer_body.new.face c.answer_body.new.declares waiting c.answer_body.new.waiting) c.in_default.is
          (subst (λ (b : List ℕ). AnswersBody standing o run.all None faults c.next.new.self.at c.frames.declares b c.answer_body.result c.answer_body.new.face c.answer_body.new.declares waiting c.answer_body.new.waiting) c.as_slice.ensures
          (subst (λ (n : ℕ). AnswersBody standing o run.all None faults n c.frames.declares c.as_slice.result.now c.answer_body.result c.answer_body.new.face c.answer_body.new.declares waiting c.answer_body.new.waiting) c.at.ensures (said.answers o run.all None faults run.running))) in
          run_on standing o begun faults left written c.frames.intake c.frames.declares rest output waiting c.keep_up.new.face run c.in-Ok-Some.body c.next.new.self unread hands c.answer_body.new.waiting c.answer_body.new.face said.lasting
          one.0 c.answer_body.new.declares one.1 one.2 one.3 one.4;
      unstopped = hands.stop;
      few = said.few;
      read = omega (arith, c.frames.invariant.read, (c.in-Ok-Some.ensures {u = tt}).kept);
      kept = omega (arith, c.frames.invariant.kept, (c.in_ok-keep_up.ensures {u = tt}).kept);
    }

pub returns-clause-answers : goal.returns-clause-answers
returns-clause-answers g c o begun faults running rests =
    let rest = g.S.Source.left c.frames.source in
    through g.J.Keeper.standing o begun faults (g.S.Source.left c.args.source.now) (g.K.Sink.written c.args.sink.now) c.frames.intake c.frames.declares rest (g.K.Sink.written c.frames.sink) c.frames.waiting c.frames.face
    (c.frames.invariant.run o begun faults running rests) rest (g.K.Sink.written c.finish-2.new.sink) c.finish-2.new.face c.finish-2.result _ _ c.finish-2.ensures.finishes
