use Rattle.std.proofs.Common.{◌⊎◌, Option, None, Result, Ok, Err, List, ℕ, refl, ap, sym, subst, ◌∙◌}
use Rattle.std.proofs.lemmas.Result.{err_from_is_err_and}
use Rattle.tp_records.specs.declared.body.Event.{Event}
use Rattle.tp_streams.specs.declared.stop.Stop.{Stop}
use Rattle.tp_streams.specs.Taken.{answer, bytes_left, IsFor, Leaves}
use Rattle.tp_streams.specs.Events.{EventPlace, answer_event}
use Rattle.tp_streams.specs.Said.{IsRead}
use Rattle.tp_streams.specs.Admitted.{IsPast}
use Rattle.tp_streams.proofs.Admission.{no_stop_before, end_for_events, stop_for_events, refused_for}
use Rattle.tp_streams.proofs.event_intake.EventIntake.next.Goals as goal

pub returns-in_err-body-clause-event : goal.returns-in_err-body-clause-event
returns-in_err-body-clause-event g c =
    let left = g.S.Source.left c.args.source.now in
    let p : EventPlace = record { place = c.self.inside.intake; declares = c.self.inside.declares; most = c.self.inside.most } in
    let e = err_from_is_err_and c.from_residual.result c.from_residual.ensures.1 in
    subst
    (λ (q : EventPlace). IsFor (answer_event q) (bytes_left q.place left) c.from_residual.result)
    c.self.view_is
    (subst
    (λ (r : Result (Option Event) Stop). IsFor (answer_event p) (bytes_left p.place left) r)
    (sym (e.1 ∙ ap Err e.2))
    (stop_for_events p left c.in_err-body.field-0.0 c.in_err-body.ensures.body))

pub returns-in_default-clause-event : goal.returns-in_default-clause-event
returns-in_default-clause-event g c =
    let left = g.S.Source.left c.args.source.now in
    let p : EventPlace = record { place = c.self.inside.intake; declares = c.self.inside.declares; most = c.self.inside.most } in
    subst
    (λ (q : EventPlace). IsFor (answer_event q) (bytes_left q.place left) (Ok None))
    c.self.view_is
    (end_for_events p left (no_stop_before p.place.stop (Ok c.in_ok-body.field-0) c.in_ok-body.field-0 c.in_ok-body.ensures.again refl)
    (subst (λ (o : Option (List ℕ)). IsFor (answer p.place) (bytes_left p.place left) (Ok o)) c.in_default.is c.in_ok-body.ensures.body))

pub returns-clause-event : goal.returns-clause-event
returns-clause-event g c =
    let left = g.S.Source.left c.args.source.now in
    let rest = g.S.Source.left c.next.new.source in
    let p : EventPlace = record { place = c.self.inside.intake; declares = c.self.inside.declares; most = c.self.inside.most } in
    let mid : EventPlace = record { place = c.next.new.self; declares = c.self.inside.declares; most = c.self.inside.most } in
    let stop = c.in-Err.stop in
    let hands = subst (λ (o : Option (List ℕ)). Leaves p.place left (Ok o) mid.place rest) c.in-Some.is c.in_ok-body.ensures.leaves in
    let why = subst (λ (b : List ℕ). IsRead mid.place.at b (Err stop) ⊎ IsPast mid b stop) c.as_slice.ensures c.in-Err.ensures.1 in
    subst
    (λ (q : EventPlace). IsFor (answer_event q) (bytes_left q.place left) (Err c.end.result))
    c.self.view_is
    (subst
    (λ (s : Stop). IsFor (answer_event p) (bytes_left p.place left) (Err s))
    (sym c.end.ensures.same)
    (refused_for p mid left rest c.in-Some.body stop (no_stop_before p.place.stop (Ok c.in_ok-body.field-0) c.in_ok-body.field-0 c.in_ok-body.ensures.again refl) hands refl refl why))
