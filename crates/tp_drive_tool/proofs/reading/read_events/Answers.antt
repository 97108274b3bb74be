use Rattle.std.proofs.Common.{◌≡◌, List, ℕ, Option, Some, None, Ok, Err, IfErr, sym, subst, arith, rules}
use Rattle.tp_records.specs.declared.body.Event.{Event as Given}
use Rattle.tp_streams.specs.Taken.{IsFor, bytes_left}
use Rattle.tp_streams.specs.Events.{EndsEvents, HandsEvent, LeavesEvents, answer_event}
use Rattle.tp_drive_tool.specs.Reading.{IsInputStop, IsReadCause}
use Rattle.tp_drive_tool.proofs.Readings.{HasTaken, all_taken, one_more, read_cause, stopped}
use Rattle.tp_drive_tool.proofs.reading.read_events.Goals as goal

pub returns-in_err-event-clause-stops : goal.returns-in_err-event-clause-stops
returns-in_err-event-clause-stops g c =
    let stop = c.in_err-event.field-0.0 in
    let fault : c.from_residual.result ≡ Err stop = search rules in
    let first = g.S.Source.left c.args.source.now in
    let left = g.S.Source.left c.events.source in
    let unread = g.S.Source.left c.next.new.source in
    let taken = c.events.invariant.taken in
    let said = c.in_err-event.ensures {u = tt} in
    subst (λ r. IfErr r (λ s. (bytes : List ℕ) → first ≡ Some bytes → IsInputStop bytes unread s)) (sym fault)
    (stopped first left c.events.intake c.events.events.items taken unread stop _ _ _ said.event (said.stops taken.unstopped))

pub returns-in_err-event-clause-cause : goal.returns-in_err-event-clause-cause
returns-in_err-event-clause-cause g c =
    let stop = c.in_err-event.field-0.0 in
    let fault : c.from_residual.result ≡ Err stop = search rules in
    let taken = c.events.invariant.taken in
    let said = c.in_err-event.ensures {u = tt} in
    subst (λ r. IfErr r (IsReadCause (g.S.Source.fault_count c.args.source.now) (g.S.Source.fault_count c.next.new.source))) (sym fault)
    (read_cause _ _ _ _ stop c.events.invariant.kept (said.stops taken.unstopped))

pub returns-in_default-clause-reads : goal.returns-in_default-clause-reads
returns-in_default-clause-reads g c bytes is =
    let left = g.S.Source.left c.events.source in
    let unread = g.S.Source.left c.next.new.source in
    let said = c.in_ok-event.ensures {u = tt} in
    let event : IsFor (answer_event c.events.intake) (bytes_left c.events.intake.place left) (Ok None) =
    subst (λ (x : Option Given). IsFor (answer_event c.events.intake) (bytes_left c.events.intake.place left) (Ok x)) c.in_default.is said.event in
    let ends : EndsEvents c.events.intake left c.next.new.self unread = subst (λ (x : Option Given). LeavesEvents c.events.intake left (Ok x) c.next.new.self unread) c.in_default.is said.leaves in
    all_taken (g.S.Source.left c.args.source.now) left c.events.intake c.events.events.items c.events.invariant.taken c.next.new.self unread ends event bytes is

pub events-preserved : goal.events-preserved
events-preserved g c =
    let first = g.S.Source.left c.args.source.now in
    let left = g.S.Source.left c.events.source in
    let unread = g.S.Source.left c.next.new.source in
    let hands : HandsEvent c.events.intake left c.in-Some.event c.next.new.self unread =
    subst (λ (x : Option Given). LeavesEvents c.events.intake left (Ok x) c.next.new.self unread) c.in-Some.is (c.in_ok-event.ensures {u = tt}).leaves in
    let taken = one_more first left unread c.events.intake c.next.new.self c.events.events.items c.in-Some.event c.events.invariant.taken hands in
    record {
      taken = subst (HasTaken first c.next.new.self unread) (sym ((c.in_ok-push.ensures {u = tt}).ok)) taken;
      kept = omega (arith, c.events.invariant.kept, (c.in_ok-event.ensures {u = tt}).kept);
    }
