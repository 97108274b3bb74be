use Rattle.std.proofs.Common.{◌≡◌, ◌<◌, Option, None, Result, Ok, Err, List, sym, subst, arith, rules, ℕ, refl}
use Rattle.std.specs.Prelude.{IfErr}
use Rattle.tp_records.specs.declared.body.Event.{Event as Given}
use Rattle.tp_streams.specs.declared.stop.Stop.{Stop}
use Rattle.tp_streams.specs.Events.{HandsEvent, EndsEvents, LeavesEvents, answer_event}
use Rattle.tp_streams.specs.Taken.{IsFor, bytes_left}
use Rattle.tp_serve.specs.Progress.{ServesOne, HasAnswered, first_place}
use Rattle.tp_serve.specs.Serving.{EndsServing, IsEventsStop}
use Rattle.tp_serve.proofs.Endings.{kept_up, not_kept_up, one_more_event, not_served, all_served, none_served, through, read_stop, answer_stop, finish_stop}
use Rattle.tp_serve.proofs.serving.serve_events.Goals as goal

-- ---- nothing is read before all is settled

pub returns-in_err-keep_up-clause-serves : goal.returns-in_err-keep_up-clause-serves
returns-in_err-keep_up-clause-serves g c =
    let stop = c.in_err-keep_up.field-0.0 in
    let fault : c.from_residual.result ≡ Err stop = search rules in
    λ o begun faults serving rests.
    let rest = g.S.Source.left c.events.source in
    let now = g.K.Sink.written c.keep_up.new.sink in
    subst (λ (r : Result (Unit {0}) Stop). EndsServing g.J.Keeper.standing o begun faults (g.S.Source.left c.args.source.now) rest (g.K.Sink.written c.args.sink.now) now r c.keep_up.new.site) (sym fault)
    (not_kept_up g.J.Keeper.standing o begun faults (g.S.Source.left c.args.source.now) (g.K.Sink.written c.args.sink.now) c.events.intake rest (g.K.Sink.written c.events.sink) c.events.waiting c.events.site
    (c.events.invariant.answered o begun faults serving rests) (Err stop) stop c.keep_up.new.waiting now c.keep_up.new.site _ _ rest refl (c.in_err-keep_up.ensures {u = tt}).keeps)

-- ---- no event comes

pub returns-in-Ok-None-clause-serves : goal.returns-in-Ok-None-clause-serves
returns-in-Ok-None-clause-serves g c o begun faults serving rests =
    let standing = g.J.Keeper.standing in
    let left = g.S.Source.left c.args.source.now in
    let rest = g.S.Source.left c.events.source in
    let unread = g.S.Source.left c.next.new.source in
    let written = g.K.Sink.written c.args.sink.now in
    let output = g.K.Sink.written c.keep_up.new.sink in
    let answered = kept_up standing o begun faults left written c.events.intake rest (g.K.Sink.written c.events.sink) c.events.waiting c.events.site (c.events.invariant.answered o begun faults serving rests) (Ok tt) c.keep_up.new.waiting output c.keep_up.new.site _ _ refl (c.in_ok-keep_up.ensures {u = tt}).keeps in
    let said = c.in-Ok-None.ensures {u = tt} in
    let event : IsFor (answer_event c.events.intake) (bytes_left c.events.intake.place rest) (Ok None) =
    subst (λ (x : Option Given). IsFor (answer_event c.events.intake) (bytes_left c.events.intake.place rest) (Ok x)) c.in-Ok-None.field-0-is said.event in
    let ends : EndsEvents c.events.intake rest c.next.new.self unread = subst (λ (x : Option Given). LeavesEvents c.events.intake rest (Ok x) c.next.new.self unread) c.in-Ok-None.field-0-is said.leaves in
    all_served standing o begun faults left written c.events.intake rest output c.keep_up.new.waiting c.keep_up.new.site answered c.events.invariant.unstopped unread (g.K.Sink.written c.finish.new.sink) c.finish.new.site c.finish.result _ _ c.next.new.self ends event
    c.finish.ensures.finishes

pub returns-in-Err-clause-serves : goal.returns-in-Err-clause-serves
returns-in-Err-clause-serves g c o begun faults serving rests =
    let standing = g.J.Keeper.standing in
    let left = g.S.Source.left c.args.source.now in
    let rest = g.S.Source.left c.events.source in
    let unread = g.S.Source.left c.next.new.source in
    let written = g.K.Sink.written c.args.sink.now in
    let output = g.K.Sink.written c.keep_up.new.sink in
    let answered = kept_up standing o begun faults left written c.events.intake rest (g.K.Sink.written c.events.sink) c.events.waiting c.events.site (c.events.invariant.answered o begun faults serving rests) (Ok tt) c.keep_up.new.waiting output c.keep_up.new.site _ _ refl (c.in_ok-keep_up.ensures {u = tt}).keeps in
    let said = c.in-Err.ensures {u = tt} in
    none_served standing o begun faults left written c.events.intake rest output c.keep_up.new.waiting c.keep_up.new.site answered c.events.invariant.unstopped unread (g.K.Sink.written c.finish-in-Err.new.sink) c.finish-in-Err.new.site c.finish-in-Err.result _ _ c.in-Err.stop _ _ c.next.new.self.place
    said.event (said.stops c.events.invariant.unstopped) (λ n is. said.cut_off n c.events.invariant.unstopped is) c.finish-in-Err.ensures.finishes

pub returns-in-Err-clause-stops : goal.returns-in-Err-clause-stops
returns-in-Err-clause-stops g c =
    let fin = c.finish-in-Err.ensures.finishes in
    subst (λ (r : Result (Unit {0}) Stop). IfErr r (IsEventsStop (g.S.Source.fault_count c.args.source.now) (g.S.Source.fault_count c.next.new.source) (g.K.Sink.fault_count c.args.sink.now) (g.K.Sink.fault_count c.finish-in-Err.new.sink))) (sym fin.is)
    (finish_stop _ _ (g.K.Sink.fault_count c.args.sink.now) (g.K.Sink.fault_count c.keep_up.new.sink) _ fin.settled (Err c.in-Err.stop) (omega (arith, c.events.invariant.kept, (c.in_ok-keep_up.ensures {u = tt}).kept)) fin.settles.stops
    (read_stop c.events.intake.place.at (g.S.Source.fault_count c.args.source.now) (g.S.Source.fault_count c.events.source) (g.S.Source.fault_count c.next.new.source) _ _ c.in-Err.stop c.events.invariant.read ((c.in-Err.ensures {u = tt}).stops c.events.invariant.unstopped)))

-- ---- an event that is not served

pub returns-in-Err-serve_event-clause-serves : goal.returns-in-Err-serve_event-clause-serves
returns-in-Err-serve_event-clause-serves g c o begun faults serving rests =
    let standing = g.J.Keeper.standing in
    let left = g.S.Source.left c.args.source.now in
    let rest = g.S.Source.left c.events.source in
    let unread = g.S.Source.left c.next.new.source in
    let written = g.K.Sink.written c.args.sink.now in
    let output = g.K.Sink.written c.keep_up.new.sink in
    let waiting = c.keep_up.new.waiting in
    let site = c.keep_up.new.site in
    let stop = c.in-Err-serve_event.stop in
    let answered = kept_up standing o begun faults left written c.events.intake rest (g.K.Sink.written c.events.sink) c.events.waiting c.events.site (c.events.invariant.answered o begun faults serving rests) (Ok tt) waiting output site _ _ refl (c.in_ok-keep_up.ensures {u = tt}).keeps in
    let hands : HandsEvent c.events.intake rest c.in-Ok-Some.event c.next.new.self unread =
    subst (λ (x : Option Given). LeavesEvents c.events.intake rest (Ok x) c.next.new.self unread) c.in-Ok-Some.field-0-is (c.in-Ok-Some.ensures {u = tt}).leaves in
    let said = c.in-Err-serve_event.ensures {u = tt} in
    let one : ServesOne standing o answered.all None faults c.next.new.self.place.at c.in-Ok-Some.event (Err stop) c.serve_event.new.site waiting c.serve_event.new.waiting =
    subst (λ (n : ℕ). ServesOne standing o answered.all None faults n c.in-Ok-Some.event (Err stop) c.serve_event.new.site waiting c.serve_event.new.waiting) c.at.ensures (said.serves o answered.all None faults answered.serving) in
    not_served standing o begun faults left written c.events.intake rest output waiting site answered c.in-Ok-Some.event c.next.new.self unread hands c.serve_event.new.waiting c.serve_event.new.site said.lasting (g.K.Sink.written c.finish-in-Err-serve_event.new.sink) c.finish-in-Err-serve_event.new.site c.finish-in-Err-serve_event.result _ _ stop one
    c.finish-in-Err-serve_event.ensures.finishes

pub returns-in-Err-serve_event-clause-stops : goal.returns-in-Err-serve_event-clause-stops
returns-in-Err-serve_event-clause-stops g c =
    let fin = c.finish-in-Err-serve_event.ensures.finishes in
    let hands : HandsEvent c.events.intake (g.S.Source.left c.events.source) c.in-Ok-Some.event c.next.new.self (g.S.Source.left c.next.new.source) =
    subst (λ (x : Option Given). LeavesEvents c.events.intake (g.S.Source.left c.events.source) (Ok x) c.next.new.self (g.S.Source.left c.next.new.source)) c.in-Ok-Some.field-0-is (c.in-Ok-Some.ensures {u = tt}).leaves in
    let far : 0 < c.at.result = omega (arith, c.at.ensures, hands.at) in
    subst (λ (r : Result (Unit {0}) Stop). IfErr r (IsEventsStop (g.S.Source.fault_count c.args.source.now) (g.S.Source.fault_count c.next.new.source) (g.K.Sink.fault_count c.args.sink.now) (g.K.Sink.fault_count c.finish-in-Err-serve_event.new.sink))) (sym fin.is)
    (finish_stop _ _ (g.K.Sink.fault_count c.args.sink.now) (g.K.Sink.fault_count c.keep_up.new.sink) _ fin.settled (Err c.in-Err-serve_event.stop) (omega (arith, c.events.invariant.kept, (c.in_ok-keep_up.ensures {u = tt}).kept)) fin.settles.stops
    (answer_stop c.at.result _ _ _ _ c.in-Err-serve_event.stop far (c.in-Err-serve_event.ensures {u = tt}).stops))

-- ---- one event more

pub events-preserved : goal.events-preserved
events-preserved g c =
    let standing = g.J.Keeper.standing in
    let rest = g.S.Source.left c.events.source in
    let unread = g.S.Source.left c.next.new.source in
    let output = g.K.Sink.written c.keep_up.new.sink in
    let waiting = c.keep_up.new.waiting in
    let hands : HandsEvent c.events.intake rest c.in-Ok-Some.event c.next.new.self unread =
    subst (λ (x : Option Given). LeavesEvents c.events.intake rest (Ok x) c.next.new.self unread) c.in-Ok-Some.field-0-is (c.in-Ok-Some.ensures {u = tt}).leaves in
    record {
      answered = λ o begun faults serving rests.
          let left = g.S.Source.left c.args.source.now in
          let written = g.K.Sink.written c.args.sink.now in
          let answered = kept_up standing o begun faults left written c.events.intake rest (g.K.Sink.written c.events.sink) c.events.waiting c.events.site (c.events.invariant.answered o begun faults serving rests) (Ok tt) waiting output c.keep_up.new.site _ _ refl (c.in_ok-keep_up.ensures {u = tt}).keeps in
          let said = c.serve_event.ensures in
          let one : ServesOne standing o answered.all None faults c.next.new.self.place.at c.in-Ok-Some.event (Ok tt) c.serve_event.new.site waiting c.serve_event.new.waiting =
          subst (λ (r : Result (Unit {0}) Stop). ServesOne standing o answered.all None faults c.next.new.self.place.at c.in-Ok-Some.event r c.serve_event.new.site waiting c.serve_event.new.waiting) c.in_default.is
          (subst (λ (n : ℕ). ServesOne standing o answered.all None faults n c.in-Ok-Some.event c.serve_event.result c.serve_event.new.site waiting c.serve_event.new.waiting) c.at.ensures (said.serves o answered.all None faults answered.serving)) in
          one_more_event standing o begun faults left written c.events.intake rest output waiting c.keep_up.new.site answered c.in-Ok-Some.event c.next.new.self unread hands c.serve_event.new.waiting c.serve_event.new.site said.lasting one;
      unstopped = hands.stop;
      read = omega (arith, c.events.invariant.read, (c.in-Ok-Some.ensures {u = tt}).kept);
      kept = omega (arith, c.events.invariant.kept, (c.in_ok-keep_up.ensures {u = tt}).kept);
    }

pub returns-clause-serves : goal.returns-clause-serves
returns-clause-serves g c o begun faults serving rests =
    let rest = g.S.Source.left c.events.source in
    through g.J.Keeper.standing o begun faults (g.S.Source.left c.args.source.now) (g.K.Sink.written c.args.sink.now) c.events.intake rest (g.K.Sink.written c.events.sink) c.events.waiting c.events.site
    (c.events.invariant.answered o begun faults serving rests) c.events.invariant.unstopped rest (g.K.Sink.written c.finish-2.new.sink) c.finish-2.new.site c.finish-2.result _ _ c.finish-2.ensures.finishes
