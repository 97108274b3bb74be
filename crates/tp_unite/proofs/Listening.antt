-- How far a recording was read, and what the rest of it will tell.
use Rattle.std.proofs.Common.{◌≡◌, ◌≤◌, ℕ, suc, Option, Some, None, Result, Ok, Err, List, [], ◌∷◌, ◌++◌, refl, sym, ap, ◌∙◌, subst, arith, append_assoc, inl, inr}
use Rattle.std.specs.Prelude.{option_map}
use Rattle.tp_framing.specs.Frames.{Rest, Nothing, Short, Bad_length, Stream, stream, with_body, frame_bytes}
use Rattle.tp_model.specs.declared.verdict.Why.{Why}
use Rattle.tp_model.specs.Transcript.{Ending, Done, Bad_input, At_limit}
use Rattle.tp_model.specs.NodeTranscript.{rest_ending}
use Rattle.tp_streams.specs.declared.stop.Stop.{Stop}
use Rattle.tp_streams.specs.Stops.{ended, unless_outside, IsFaultOf, IsFrameStop}
use Rattle.tp_streams.specs.Taken.{Place, together, bytes_left, first_body, answer, IsFor, HandsOut}
use Rattle.tp_deployments.specs.Deployments.{Place as SomePlace}
use Rattle.tp_weaving.specs.declared.frame.Frame.{Frame}
use Rattle.tp_weaving.specs.Places.{placed}
use Rattle.tp_weaving.specs.Frames.{Record, Recording as Told, nothing_told, with_start, with_event, with_records, frame_in, told_frame, told_body, told_from}
use Rattle.tp_unite.specs.declared.recording.Recording.{Recording}
use Rattle.tp_unite.specs.Endings.{body_ending, ending_from, ending}
use Rattle.tp_unite.specs.Recording.{IsHeard, Comes, IsStopAt, Misplaces}
use Rattle.tp_unite.specs.Verdicts.{IsWhole, IsFrameAt, TellsMisplaced, Stops}
use Rattle.tp_unite.proofs.Never.{misplaced_never}

-- these bytes are left; those before them told that, and how all of them end is how these end from here on
pub record IsLeft (bytes : List ℕ) (p : Place) (left : Option (List ℕ)) (at : Told) : Type 0 where
  pub all : List ℕ
  pub is : bytes_left p left ≡ Some all
  pub before : List (List ℕ)
  pub tells : told_from nothing_told before ≡ Some at
  pub bodies : (stream bytes).bodies ≡ before ++ (stream all).bodies
  pub rest : (stream bytes).rest ≡ (stream all).rest
  pub ends : ending bytes ≡ ending_from at (stream all).bodies (stream all).rest

pub record Way (start : Option (List ℕ)) (p : Place) (left : Option (List ℕ)) (c : Recording) : Type 0 where
  pub stop : p.stop ≡ None
  pub at : Told
  pub count : p.at ≡ at.count
  pub is : IsHeard at c
  pub read : (bytes : List ℕ) → start ≡ Some bytes → IsLeft bytes p left at

pub begins : (start : Option (List ℕ)) (p : Place) (c : Recording) → p ≡ record { held = []; at = 0; stop = None } → IsHeard nothing_told c → Way start p start c
begins start p c fresh is = subst (λ q. Way start q start c) (sym fresh)
    (record {
      stop = refl;
      at = nothing_told;
      count = refl;
      is = is;
      read = λ bytes there. record { all = bytes; is = ap (together []) there; before = []; tells = refl; bodies = refl; rest = refl; ends = refl };
    })

-- ---- frames before, and one

told_then : (t u : Told) (bs cs : List (List ℕ)) → told_from t bs ≡ Some u → told_from t (bs ++ cs) ≡ told_from u cs
told_then t u [] cs is = let same : t ≡ u = cc (is) in ap (λ (v : Told). told_from v cs) same
told_then t u (b ∷ bs) cs is = by (told_body t b) is (λ v k. told_then v u bs cs k)
  where
    by : (o : Option Told) → (elim o as (λ _. Option Told) [ None ↦ None | Some v ↦ told_from v bs ]) ≡ Some u → ((v : Told) → told_from v bs ≡ Some u → told_from v (bs ++ cs) ≡ told_from u cs)
        → (elim o as (λ _. Option Told) [ None ↦ None | Some v ↦ told_from v (bs ++ cs) ]) ≡ told_from u cs
    by None k rest = absurd (cc (k))
    by (Some v) k rest = rest v k

told_on : (at u : Told) (body : List ℕ) (bs : List (List ℕ)) → told_body at body ≡ Some u → told_from at (body ∷ bs) ≡ told_from u bs
told_on at u body bs is = ap (λ (o : Option Told). elim o as (λ _. Option Told) [ None ↦ None | Some v ↦ told_from v bs ]) is

abbrev ends_by : Told → List ℕ → List (List ℕ) → Rest → Ending → Ending
ends_by at body bs rest e = elim e as (λ _. Ending) [
  | Bad_input n why ↦ Bad_input n why
  | At_limit what n ↦ At_limit what n
  | Done ↦ elim (told_body at body) as (λ _. Ending) [ None ↦ Done | Some u ↦ ending_from u bs rest ]
]

ends_on : (at u : Told) (body : List ℕ) (bs : List (List ℕ)) (rest : Rest) → body_ending at body ≡ Done → told_body at body ≡ Some u → ending_from at (body ∷ bs) rest ≡ ending_from u bs rest
ends_on at u body bs rest done is = ap (ends_by at body bs rest) done ∙ ap (λ (o : Option Told). elim o as (λ _. Ending) [ None ↦ Done | Some v ↦ ending_from v bs rest ]) is

-- ---- one frame

one_more : (t u : Told) (body : List ℕ) → told_body t body ≡ Some u → suc t.count ≡ u.count
one_more t u body is = by (frame_in body) is
  where
    placed_more : (o : Option (List SomePlace)) → option_map (λ (qs : List SomePlace). let v : Told = record { count = suc t.count; places = qs; records = [] } in v) o ≡ Some u → suc t.count ≡ u.count
    placed_more None k = absurd (cc (k))
    placed_more (Some qs) k = let same : (let v : Told = record { count = suc t.count; places = qs; records = [] } in v) ≡ u = cc (k) in ap (λ (v : Told). v.count) same

    with_more : (o : Option (List Record)) → option_map (with_records t) o ≡ Some u → suc t.count ≡ u.count
    with_more None k = absurd (cc (k))
    with_more (Some rs) k = let same : with_records t rs ≡ u = cc (k) in ap (λ (v : Told). v.count) same

    place_more : (n : ℕ) (under : Option ℕ) (name : List ℕ) (rs : List Record)
        → (elim rs as (λ _. Option Told) [ [] ↦ option_map (λ (qs : List SomePlace). record { count = suc t.count; places = qs; records = [] }) (placed t.places n under name) | r ∷ more ↦ None ]) ≡ Some u → suc t.count ≡ u.count
    place_more n under name [] k = placed_more (placed t.places n under name) k
    place_more n under name (r ∷ rs) k = absurd (cc (k))

    by : (o : Option Frame) → (elim o as (λ _. Option Told) [ None ↦ None | Some f ↦ told_frame (suc t.count) t f ]) ≡ Some u → suc t.count ≡ u.count
    by None k = absurd (cc (k))
    by (Some (Frame.Place n under name)) k = place_more n under name t.records k
    by (Some (Frame.Starts n)) k = with_more (Some (with_start t.records (suc t.count) n)) k
    by (Some (Frame.Takes g)) k = with_more (with_event t.records (suc t.count) g) k

rest_of : (o : Option (List ℕ)) (body all : List ℕ) → option_map (λ b. frame_bytes body ++ b) o ≡ Some all → (rest : List ℕ) × (o ≡ Some rest)
rest_of None body all is = absurd (cc (is))
rest_of (Some rest) body all is = (rest, refl)

comes_from : (o : Option Told) (c : Recording) → Comes o c → (u : Told) × (o ≡ Some u) × IsHeard u c
comes_from None c h = absurd h
comes_from (Some u) c h = (u, refl, h)

-- what was handed out is the first of what was left
record IsHanded (body all : List ℕ) (p : Place) (left : Option (List ℕ)) : Type 0 where
  rest : List ℕ
  is : bytes_left p left ≡ Some rest
  same : stream all ≡ with_body body (stream rest)

handed : (old new : Place) (left rest : Option (List ℕ)) (body all : List ℕ) → HandsOut old left body new rest → bytes_left old left ≡ Some all → IsHanded body all new rest
handed old new left rest body all hands is =
    let more = rest_of (bytes_left new rest) body all (sym hands.bytes ∙ is) in
    let streams : Some (stream all) ≡ Some (with_body body (stream more.0)) =
    ap (option_map stream) (sym is) ∙ hands.frames ∙ ap (λ o. option_map (with_body body) (option_map stream o)) more.1 in
    record { rest = more.0; is = more.1; same = cc (streams) }

pub goes_further : (start : Option (List ℕ)) (old new : Place) (left rest : Option (List ℕ)) (c d : Recording) (body : List ℕ) (way : Way start old left c) → HandsOut old left body new rest → (body_ending way.at body ≡ Done) × Comes (told_body way.at body) d → Way start new rest d
goes_further start old new left rest c d body way hands comes = record {
  stop = hands.stop;
  at = u.0;
  count = hands.at ∙ ap suc way.count ∙ one_more way.at u.0 body u.1;
  is = u.2;
  read = λ bytes there.
      let l = way.read bytes there in
      let h = handed old new left rest body l.all hands l.is in
      record {
        all = h.rest;
        is = h.is;
        before = l.before ++ body ∷ [];
        tells = told_then nothing_told way.at l.before (body ∷ []) l.tells ∙ told_on way.at u.0 body [] u.1;
        bodies = l.bodies ∙ ap (λ (s : Stream). l.before ++ s.bodies) h.same ∙ sym (append_assoc l.before (body ∷ []) (stream h.rest).bodies);
        rest = l.rest ∙ ap (λ (s : Stream). s.rest) h.same;
        ends = l.ends ∙ ap (λ (s : Stream). ending_from way.at s.bodies s.rest) h.same ∙ ends_on way.at u.0 body (stream h.rest).bodies (stream h.rest).rest comes.0 u.1;
      };
}
  where
    u : (v : Told) × (told_body way.at body ≡ Some v) × IsHeard v d
    u = comes_from (told_body way.at body) d comes.1

-- a frame that is taken, of which a log may have no room
frame_at : (start : Option (List ℕ)) (old new : Place) (left rest : Option (List ℕ)) (c : Recording) (body : List ℕ) (way : Way start old left c) → HandsOut old left body new rest → body_ending way.at body ≡ Done
    → (bytes : List ℕ) → start ≡ Some bytes → IsFrameAt bytes new.at way.at body
frame_at start old new left rest c body way hands done bytes there =
    let l = way.read bytes there in
    let h = handed old new left rest body l.all hands l.is in
    record {
      before = l.before;
      rest = (stream h.rest).bodies;
      bodies = l.bodies ∙ ap (λ (s : Stream). l.before ++ s.bodies) h.same;
      tells = l.tells;
      number = hands.at ∙ ap suc way.count;
      taken = done;
    }

pub misplaced_at : (start : Option (List ℕ)) (old new : Place) (left rest : Option (List ℕ)) (c : Recording) (body : List ℕ) (way : Way start old left c) → HandsOut old left body new rest → (body_ending way.at body ≡ Done) × Misplaces way.at body
    → (bytes : List ℕ) → start ≡ Some bytes → TellsMisplaced bytes new.at
unfolding frame_at
misplaced_at start old new left rest c body way hands mis bytes there =
    let l = way.read bytes there in
    record {
      told = way.at;
      body = body;
      frame = frame_at start old new left rest c body way hands mis.0 bytes there;
      misplaced = mis.1;
      never = λ more all is. misplaced_never way.at all body more mis.1 (sym (told_then nothing_told way.at l.before (body ∷ more) l.tells) ∙ is);
    }

-- ---- the reading stops

ends_so : (start : Option (List ℕ)) (old new : Place) (left rest : Option (List ℕ)) (c : Recording) (body : List ℕ) (way : Way start old left c) → HandsOut old left body new rest → (bytes : List ℕ) → start ≡ Some bytes
    → (more : List (List ℕ)) × (end : Rest) × (ending bytes ≡ ending_from way.at (body ∷ more) end)
ends_so start old new left rest c body way hands bytes there =
    let l = way.read bytes there in
    let h = handed old new left rest body l.all hands l.is in
    ((stream h.rest).bodies, (stream h.rest).rest, l.ends ∙ ap (λ (s : Stream). ending_from way.at s.bodies s.rest) h.same)

pub frame_stops : (start : Option (List ℕ)) (old new : Place) (left rest : Option (List ℕ)) (c : Recording) (body : List ℕ) (way : Way start old left c) (before now : ℕ) (stop : Stop) → HandsOut old left body new rest → IsStopAt new.at (body_ending way.at body) stop
    → Stops start before now stop
frame_stops start old new left rest c body way before now (Stop.BadInput n why) hands is = λ bytes there.
    let e = ends_so start old new left rest c body way hands bytes there in
    e.2 ∙ ap (ends_by way.at body e.0 e.1) is
frame_stops start old new left rest c body way before now (Stop.Limit what n) hands (inl is) = λ bytes there.
    let e = ends_so start old new left rest c body way hands bytes there in
    inl (e.2 ∙ ap (ends_by way.at body e.0 e.1) is)
frame_stops start old new left rest c body way before now (Stop.Limit what n) hands (inr is) = λ bytes there.
    inr (record {
      what_is = is.0;
      told = way.at;
      body = body;
      frame = subst (λ (m : ℕ). IsFrameAt bytes m way.at body) (sym is.1) (frame_at start old new left rest c body way hands is.2 bytes there);
    })
frame_stops start old new left rest c body way before now (Stop.Foreign n) hands is = absurd is
frame_stops start old new left rest c body way before now (Stop.ReadFault faults) hands is = absurd is
frame_stops start old new left rest c body way before now (Stop.WriteFault faults) hands is = absurd is
frame_stops start old new left rest c body way before now (Stop.DiskFault faults) hands is = absurd is
frame_stops start old new left rest c body way before now Stop.NoMemory hands is = tt

fresh_answer : (p : Place) (all : List ℕ) → p.stop ≡ None → answer p all ≡ first_body (suc p.at) (stream all)
fresh_answer p all none = ap (λ o. elim o as (λ _. Result (Option (List ℕ)) Stop) [ Some stop ↦ Err stop | None ↦ first_body (suc p.at) (stream all) ]) none

-- it is bad where no more frame is whole
bad_rest : (number n : ℕ) (why : Why) (bodies : List (List ℕ)) (rest : Rest) → Err (Stop.BadInput n why) ≡ first_body number (record { bodies = bodies; rest = rest }) → (bodies ≡ []) × (rest_ending number rest ≡ Bad_input n why)
bad_rest number n why (b ∷ bs) rest h = absurd (cc (h))
bad_rest number n why [] Nothing h = absurd (cc (h))
bad_rest number n why [] Short h =
    let at : n ≡ number = cc (h) in
    let is : why ≡ Why.Short = cc (h) in
    (refl, ap (λ (w : Why). Bad_input number w) (sym is) ∙ ap (λ (m : ℕ). Bad_input m why) (sym at))
bad_rest number n why [] Bad_length h =
    let at : n ≡ number = cc (h) in
    let is : why ≡ Why.Length = cc (h) in
    (refl, ap (λ (w : Why). Bad_input number w) (sym is) ∙ ap (λ (m : ℕ). Bad_input m why) (sym at))

risen : (faults start old new : ℕ) → start ≤ old → IsFaultOf faults old new → IsFaultOf faults start new
risen faults start old new before is = record { risen = omega (arith, before, is.risen); told = is.told }

pub source_stops : (start : Option (List ℕ)) (p : Place) (left : Option (List ℕ)) (c : Recording) (way : Way start p left c) (first before now : ℕ) (stop : Stop) → first ≤ before → IsFor (answer p) (bytes_left p left) (Err stop) → IsFrameStop (suc p.at) before now stop
    → Stops start first now stop
source_stops start p left c way first before now (Stop.BadInput n why) since for is = λ bytes there.
    let l = way.read bytes there in
    let bad = bad_rest (suc p.at) n why (stream l.all).bodies (stream l.all).rest (for l.all l.is ∙ ap (unless_outside (Err (Stop.BadInput n why))) (fresh_answer p l.all way.stop)) in
    l.ends ∙ ap (λ (bs : List (List ℕ)). ending_from way.at bs (stream l.all).rest) bad.0 ∙ ap (λ (m : ℕ). rest_ending (suc m) (stream l.all).rest) (sym way.count) ∙ bad.1
source_stops start p left c way first before now (Stop.Limit what n) since for is = absurd is
source_stops start p left c way first before now (Stop.Foreign n) since for is = absurd is
source_stops start p left c way first before now (Stop.ReadFault faults) since for is = risen faults first before now since is
source_stops start p left c way first before now (Stop.WriteFault faults) since for is = absurd is
source_stops start p left c way first before now (Stop.DiskFault faults) since for is = absurd is
source_stops start p left c way first before now Stop.NoMemory since for is = tt

-- ---- the end

none_left : (n : ℕ) (bodies : List (List ℕ)) (rest : Rest) (r : Result (Option (List ℕ)) Stop) → r ≡ unless_outside r (first_body n (record { bodies = bodies; rest = rest })) → r ≡ Ok None → (bodies ≡ []) × (rest ≡ Nothing)
none_left n (b ∷ bs) rest r h k = absurd (let both : Ok None ≡ Ok (Some b) = sym k ∙ h ∙ ap (λ q. unless_outside q (Ok (Some b))) k in cc (both))
none_left n [] Nothing r h k = (refl, refl)
none_left n [] Short r h k = absurd (let both = sym k ∙ h ∙ ap (λ q. unless_outside q (ended (rest_ending n Short))) k in cc (both))
none_left n [] Bad_length r h k = absurd (let both = sym k ∙ h ∙ ap (λ q. unless_outside q (ended (rest_ending n Bad_length))) k in cc (both))

pub ends : (start : Option (List ℕ)) (p : Place) (left : Option (List ℕ)) (c : Recording) (way : Way start p left c) → IsFor (answer p) (bytes_left p left) (Ok None) → (bytes : List ℕ) → start ≡ Some bytes → IsWhole bytes c
ends start p left c way for bytes there = record {
  told = way.at;
  tells = record {
    whole = l.rest ∙ none.1;
    tells = ap (told_from nothing_told) (l.bodies ∙ ap (λ (bs : List (List ℕ)). l.before ++ bs) none.0) ∙ told_then nothing_told way.at l.before [] l.tells;
  };
  heard = way.is;
}
  where
    l : IsLeft bytes p left way.at
    l = way.read bytes there

    none : ((stream l.all).bodies ≡ []) × ((stream l.all).rest ≡ Nothing)
    none = none_left (suc p.at) (stream l.all).bodies (stream l.all).rest (Ok None) (for l.all l.is ∙ ap (unless_outside (Ok None)) (fresh_answer p l.all way.stop)) refl
