-- Events that are let in or not, after the frame that says them was taken.
use Rattle.std.proofs.Common.{◌≡◌, ◌⊎◌, inl, inr, ℕ, suc, ◌+◌, ◌<◌, ◌≤◌, Option, Some, None, Result, Ok, Err, List, [], ◌∷◌, refl, ap, sym, subst, ◌∙◌}
use Rattle.std.specs.Prelude.{option_map}
use Rattle.tp_records.specs.declared.body.Event.{Event}
use Rattle.tp_framing.specs.Frames.{Stream, stream, with_body}
use Rattle.tp_model.specs.declared.verdict.What.{What}
use Rattle.tp_model.specs.declared.verdict.Why.{Why}
use Rattle.tp_model.specs.Transcript.{Ending, Done, Bad_input, At_limit}
use Rattle.tp_model.specs.NodeTranscript.{declared_by, rest_ending}
use Rattle.tp_streams.specs.declared.stop.Stop.{Stop}
use Rattle.tp_streams.specs.Stops.{ended, unless_outside}
use Rattle.tp_streams.specs.Taken.{Place, bytes_left, frames_left, first_body, answer, IsFor, HandsOut}
use Rattle.tp_streams.specs.Events.{EventPlace, input_at, first_event, answer_event}
use Rattle.tp_streams.specs.Said.{IsRead}
use Rattle.tp_streams.specs.Admitted.{IsPast}
use Rattle.tp_streams.proofs.Handed.{answer_fresh}
use Rattle.tp_streams.proofs.Steps.{says_none, past_events, past_nodes}

-- ---- no body is handed out

ended_alike : (e : Ending) (stop : Stop) → Err stop ≡ unless_outside (Err stop) (ended {A = List ℕ} e) → Err stop ≡ unless_outside (Err stop) (ended {A = Event} e)
ended_alike Done (Stop.BadInput at why) h = absurd cc
ended_alike Done (Stop.Limit what at) h = absurd cc
ended_alike Done (Stop.Foreign at) h = absurd cc
ended_alike Done (Stop.ReadFault n) h = refl
ended_alike Done (Stop.WriteFault n) h = absurd cc
ended_alike Done (Stop.DiskFault n) h = absurd cc
ended_alike Done Stop.NoMemory h = refl
ended_alike (Bad_input m w) (Stop.BadInput at why) h = cc
ended_alike (Bad_input m w) (Stop.Limit what at) h = absurd cc
ended_alike (Bad_input m w) (Stop.Foreign at) h = absurd cc
ended_alike (Bad_input m w) (Stop.ReadFault n) h = refl
ended_alike (Bad_input m w) (Stop.WriteFault n) h = absurd cc
ended_alike (Bad_input m w) (Stop.DiskFault n) h = absurd cc
ended_alike (Bad_input m w) Stop.NoMemory h = refl
ended_alike (At_limit w m) (Stop.BadInput at why) h = absurd cc
ended_alike (At_limit w m) (Stop.Limit what at) h = cc
ended_alike (At_limit w m) (Stop.Foreign at) h = absurd cc
ended_alike (At_limit w m) (Stop.ReadFault n) h = refl
ended_alike (At_limit w m) (Stop.WriteFault n) h = absurd cc
ended_alike (At_limit w m) (Stop.DiskFault n) h = absurd cc
ended_alike (At_limit w m) Stop.NoMemory h = refl

-- a body is no stop, but the source may have failed
not_a_body : {A : Type 0} (stop : Stop) (b : List ℕ) (r : Result A Stop) → Err stop ≡ unless_outside (Err stop) (Ok (Some b)) → Err stop ≡ unless_outside (Err stop) r
not_a_body (Stop.BadInput at why) b r h = absurd cc
not_a_body (Stop.Limit what at) b r h = absurd cc
not_a_body (Stop.Foreign at) b r h = absurd cc
not_a_body (Stop.ReadFault n) b r h = refl
not_a_body (Stop.WriteFault n) b r h = absurd cc
not_a_body (Stop.DiskFault n) b r h = absurd cc
not_a_body Stop.NoMemory b r h = refl

-- the first event of bodies
abbrev pub first_in : EventPlace → Stream → Result (Option Event) Stop
first_in p s = first_event (input_at p s)

first_stop : (p : EventPlace) (s : Stream) (stop : Stop) → Err stop ≡ unless_outside (Err stop) (first_body (suc p.place.at) s) → Err stop ≡ unless_outside (Err stop) (first_in p s)
first_stop p s stop h = go s.bodies h
  where
    go : (bs : List (List ℕ))
        → Err stop ≡ unless_outside (Err stop) (first_body (suc p.place.at) (record { bodies = bs; rest = s.rest }))
        → Err stop ≡ unless_outside (Err stop) (first_in p (record { bodies = bs; rest = s.rest }))
    go [] e = ended_alike (rest_ending (suc p.place.at) s.rest) stop e
    go (b ∷ bs) e = not_a_body stop b (first_in p (record { bodies = b ∷ bs; rest = s.rest })) e

ended_none : (e : Ending) → Ok None ≡ ended {A = List ℕ} e → Ok None ≡ ended {A = Event} e
ended_none Done h = refl
ended_none (Bad_input at why) h = absurd cc
ended_none (At_limit what at) h = absurd cc

first_none : (p : EventPlace) (s : Stream) → Ok None ≡ first_body (suc p.place.at) s → Ok None ≡ first_in p s
first_none p s h = go s.bodies h
  where
    go : (bs : List (List ℕ)) → Ok None ≡ first_body (suc p.place.at) (record { bodies = bs; rest = s.rest }) → Ok None ≡ first_in p (record { bodies = bs; rest = s.rest })
    go [] e = ended_none (rest_ending (suc p.place.at) s.rest) e
    go (b ∷ bs) e = absurd cc

answer_event_fresh : (p : EventPlace) (all : List ℕ) → p.place.stop ≡ None → answer_event p all ≡ first_in p (stream all)
answer_event_fresh p all none =
    ap (λ (o : Option Stop). elim o as (λ _. Result (Option Event) Stop) [ Some stop ↦ Err stop | None ↦ first_event (input_at p (stream all)) ]) none

-- a body that was handed out tells that no stop was there
pub no_stop_before : {A : Type 0} (o : Option Stop) (r : Result A Stop) (a : A) → ((stop : Stop) → o ≡ Some stop → r ≡ Err stop) → r ≡ Ok a → o ≡ None
no_stop_before None r a again is = refl
no_stop_before (Some stop) r a again is = absurd (let clash : Err stop ≡ Ok a = sym (again stop refl) ∙ is in cc)

pub end_for_events : (p : EventPlace) (left : Option (List ℕ)) → p.place.stop ≡ None → IsFor (answer p.place) (bytes_left p.place left) (Ok None)
    → IsFor (answer_event p) (bytes_left p.place left) (Ok None)
end_for_events p left none h all is =
    first_none p (stream all) (h all is ∙ answer_fresh p.place all none) ∙ sym (answer_event_fresh p all none)

stop_by : (p : EventPlace) (all : List ℕ) (stop : Stop) (o : Option Stop)
    → Err stop ≡ unless_outside (Err stop) (elim o as (λ _. Result (Option (List ℕ)) Stop) [ Some stop ↦ Err stop | None ↦ first_body (suc p.place.at) (stream all) ])
    → Err stop ≡ unless_outside (Err stop) (elim o as (λ _. Result (Option Event) Stop) [ Some stop ↦ Err stop | None ↦ first_event (input_at p (stream all)) ])
stop_by p all stop None h = first_stop p (stream all) stop h
stop_by p all stop (Some before) h = alike stop before h
  where
    alike : (s t : Stop) → Err s ≡ unless_outside {A = Option (List ℕ)} (Err s) (Err t) → Err s ≡ unless_outside {A = Option Event} (Err s) (Err t)
    alike (Stop.BadInput at why) t h = let e : Stop.BadInput at why ≡ t = cc in ap Err e
    alike (Stop.Limit what at) t h = let e : Stop.Limit what at ≡ t = cc in ap Err e
    alike (Stop.Foreign at) t h = let e : Stop.Foreign at ≡ t = cc in ap Err e
    alike (Stop.ReadFault n) t h = refl
    alike (Stop.WriteFault n) t h = let e : Stop.WriteFault n ≡ t = cc in ap Err e
    alike (Stop.DiskFault n) t h = let e : Stop.DiskFault n ≡ t = cc in ap Err e
    alike Stop.NoMemory t h = refl

pub stop_for_events : (p : EventPlace) (left : Option (List ℕ)) (stop : Stop) → IsFor (answer p.place) (bytes_left p.place left) (Err stop)
    → IsFor (answer_event p) (bytes_left p.place left) (Err stop)
stop_for_events p left stop h all is = stop_by p all stop p.place.stop (h all is)

-- ---- a body is handed out

-- the stream begins with the body
streamed : (old new : Place) (left rest : Option (List ℕ)) (body all : List ℕ) → HandsOut old left body new rest → bytes_left old left ≡ Some all → (s : Stream) × (stream all ≡ with_body body s)
streamed old new left rest body all h is = go (frames_left new rest) (ap (option_map stream) (sym is) ∙ h.frames)
  where
    go : (o : Option Stream) → Some (stream all) ≡ option_map (with_body body) o → (s : Stream) × (stream all ≡ with_body body s)
    go None e = absurd cc
    go (Some s) e = (s, cc)

-- a body that says no event, or one past a limit
pub refused_for : (old mid : EventPlace) (left rest : Option (List ℕ)) (body : List ℕ) (stop : Stop) → old.place.stop ≡ None
    → HandsOut old.place left body mid.place rest → mid.declares ≡ old.declares → mid.most ≡ old.most
    → IsRead mid.place.at body (Err stop) ⊎ IsPast mid body stop → IsFor (answer_event old) (bytes_left old.place left) (Err stop)
refused_for old mid left rest body stop none h same kept (inl (inl bad)) all is =
    let s = streamed old.place mid.place left rest body all h is in
    subst
    (λ (v : Stop). Err v ≡ unless_outside (Err v) (answer_event old all))
    (sym (bad.0 ∙ ap (λ (k : ℕ). Stop.BadInput k Why.Body) h.at))
    (sym
    (answer_event_fresh old all none
    ∙ ap (first_in old) s.1
    ∙ ap first_event (says_none old.most (suc old.place.at) old.declares body s.0.bodies s.0.rest bad.1)))
refused_for old mid left rest body stop none h same kept (inl (inr memory)) all is =
    subst (λ (v : Stop). Err v ≡ unless_outside (Err v) (answer_event old all)) (sym memory) refl
refused_for old mid left rest body stop none h same kept (inr past) all is = go past.past
  where
    s : (s : Stream) × (stream all ≡ with_body body s)
    s = streamed old.place mid.place left rest body all h is

    go : ((mid.most < mid.place.at) × (stop ≡ Stop.Limit What.Events mid.place.at))
        ⊎ ((mid.place.at ≤ mid.most) × (256 < mid.declares + declared_by past.event) × (stop ≡ Stop.Limit What.Nodes mid.place.at))
        → Err stop ≡ unless_outside (Err stop) (answer_event old all)
    go (inl p) =
        subst
        (λ (v : Stop). Err v ≡ unless_outside (Err v) (answer_event old all))
        (sym (p.1 ∙ ap (λ (k : ℕ). Stop.Limit What.Events k) h.at))
        (sym
        (answer_event_fresh old all none
        ∙ ap (first_in old) s.1
        ∙ ap first_event (past_events old.most (suc old.place.at) old.declares body s.0.bodies s.0.rest past.event past.says
        (subst (λ (k : ℕ). old.most < k) h.at (subst (λ (k : ℕ). k < mid.place.at) kept p.0)))))
    go (inr p) =
        subst
        (λ (v : Stop). Err v ≡ unless_outside (Err v) (answer_event old all))
        (sym (p.2 ∙ ap (λ (k : ℕ). Stop.Limit What.Nodes k) h.at))
        (sym
        (answer_event_fresh old all none
        ∙ ap (first_in old) s.1
        ∙ ap first_event (past_nodes old.most (suc old.place.at) old.declares body s.0.bodies s.0.rest past.event past.says
        (subst (λ (k : ℕ). k ≤ old.most) h.at (subst (λ (k : ℕ). mid.place.at ≤ k) kept p.0))
        (subst (λ (k : ℕ). 256 < k + declared_by past.event) same p.1))))
