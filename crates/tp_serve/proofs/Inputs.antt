-- What was read of a source, and what is still to come.
use Rattle.std.proofs.Common.{◌≡◌, ℕ, suc, ◌+◌, Bool, true, false, length, Option, Some, None, Result, Ok, Err, List, [], ◌∷◌, ◌++◌, refl, sym, ap, subst, ◌∙◌, append_assoc}
use Rattle.std.specs.Prelude.{option_map, nat_lt}
use Rattle.std.proofs.lemmas.List.{append-nil}
use Rattle.tp_records.specs.declared.body.Event.{Event as Given}
use Rattle.tp_records.specs.BodyReading.{event_in}
use Rattle.tp_framing.specs.Frames.{Next, Part, Whole, Bad, next_in, Stream, Rest, Nothing, Short, Bad_length, with_body, ends_with, stream_from, stream}
use Rattle.tp_model.specs.declared.verdict.What.{What}
use Rattle.tp_model.specs.declared.verdict.Why.{Why}
use Rattle.tp_model.specs.Transcript.{Ending, Done, Bad_input, At_limit}
use Rattle.tp_model.specs.NodeTranscript.{Input, input_from, input_of, with_event, rest_ending, declared_by}
use Rattle.tp_streams.specs.declared.stop.Stop.{Stop}
use Rattle.tp_streams.specs.Stops.{ended}
use Rattle.tp_streams.specs.Taken.{Place, together, bytes_left, IsFor, IsCutOff}
use Rattle.tp_streams.proofs.Steps.{limits_by, events_by, events_step}
use Rattle.tp_streams.specs.Events.{EventPlace, events_from, input_at, events_left, first_event, answer_event, EndsEvents}
use Rattle.tp_serve.specs.Progress.{with_events, first_place}
use Rattle.tp_serve.specs.Serving.{GoesOn, IsCutShort}

-- ---- with at most a million events

million : (at declares : ℕ) (bs : List (List ℕ)) (rest : Rest) → events_from 1000000 at declares bs rest ≡ input_from at declares bs rest
million at declares bs rest = refl

pub from_start : (bytes : List ℕ) → input_at first_place (stream bytes) ≡ input_of bytes
from_start bytes = million 1 0 (stream bytes).bodies (stream bytes).rest

-- ---- events one after the other

pub with_none : (x : Option Input) → x ≡ option_map (with_events []) x
with_none None = refl
with_none (Some i) = refl

with_both : (gs : List Given) (g : Given) (i : Input) → with_events gs (with_event g i) ≡ with_events (gs ++ g ∷ []) i
with_both gs g i = ap (λ (l : List Given). record { events = l; ending = i.ending }) (sym (append_assoc gs (g ∷ []) i.events))

pub with_one : (gs : List Given) (g : Given) (x : Option Input) → option_map (with_events gs) (option_map (with_event g) x) ≡ option_map (with_events (gs ++ g ∷ [])) x
with_one gs g None = refl
with_one gs g (Some i) = ap (λ (j : Input). Some j) (with_both gs g i)

-- ---- what the source tells

-- where the reader of a source of so many events at most begins
abbrev pub begins : ℕ → EventPlace
begins most = record { place = record { held = []; at = 0; stop = None }; declares = 0; most = most }

-- it tells what is left, and the events to come are among those of the whole input
pub record Tells (whole : Input) (gs : List Given) (place : EventPlace) (left : Option (List ℕ)) : Type 0 where
  pub rest : List ℕ
  pub is : left ≡ Some rest
  pub input : whole ≡ with_events gs (input_at place (stream (place.place.held ++ rest)))

pub tells_from : (most : ℕ) (bytes : List ℕ) (gs : List Given) (place : EventPlace) (first left : Option (List ℕ)) → first ≡ Some bytes → events_left (begins most) first ≡ option_map (with_events gs) (events_left place left) → Tells (input_at (begins most) (stream bytes)) gs place left
tells_from most bytes gs place first None is read =
    absurd (let clash : Some (input_at (begins most) (stream bytes)) ≡ None = ap (events_left (begins most)) (sym is) ∙ read in cc)
tells_from most bytes gs place first (Some rest) is read =
    let same : Some (input_at (begins most) (stream bytes)) ≡ Some (with_events gs (input_at place (stream (place.place.held ++ rest)))) = ap (events_left (begins most)) (sym is) ∙ read in
    record { rest = rest; is = refl; input = cc }

pub tells : (bytes : List ℕ) (gs : List Given) (place : EventPlace) (first left : Option (List ℕ)) → first ≡ Some bytes → events_left first_place first ≡ option_map (with_events gs) (events_left place left) → Tells (input_of bytes) gs place left
tells bytes gs place first left is read = subst (λ (i : Input). Tells i gs place left) (from_start bytes) (tells_from 1000000 bytes gs place first left is read)

pub goes_on : (bytes : List ℕ) (gs : List Given) (place : EventPlace) (left : Option (List ℕ)) → Tells (input_of bytes) gs place left → GoesOn bytes gs
goes_on bytes gs place left t = record { more = (input_at place (stream (place.place.held ++ t.rest))).events; are = ap (λ (i : Input). i.events) t.input }

-- ---- where nothing comes

record IsEnd (i : Input) (ending : Ending) : Type 0 where
  is : i ≡ record { events = []; ending = ending }

ends_by : (gs : List Given) (e ending : Ending) (r : Result (Option Given) Stop) → ended ending ≡ r → first_event (record { events = gs; ending = e }) ≡ r
    → ((x : Given) → Ok (Some x) ≡ r → ⊥) → ((d : Ending) → ended {A = Given} d ≡ r → d ≡ ending) → IsEnd (record { events = gs; ending = e }) ending
ends_by [] e ending r is first not_one only = record { is = ap (λ (d : Ending). record { events = []; ending = d }) (only e first) }
ends_by (g ∷ gs) e ending r is first not_one only = absurd (not_one g first)

only_done : (d : Ending) → ended {A = Given} d ≡ Ok None → d ≡ Done
only_done Done is = refl
only_done (Bad_input at why) is = absurd cc
only_done (At_limit what at) is = absurd cc

only_bad : (n : ℕ) (w : Why) (d : Ending) → ended {A = Given} d ≡ Err (Stop.BadInput n w) → d ≡ Bad_input n w
only_bad n w Done is = absurd cc
only_bad n w (Bad_input at why) is = let a : at ≡ n = cc in let b : why ≡ w = cc in rw (a, b) refl
only_bad n w (At_limit what at) is = absurd cc

only_limit : (w : What) (n : ℕ) (d : Ending) → ended {A = Given} d ≡ Err (Stop.Limit w n) → d ≡ At_limit w n
only_limit w n Done is = absurd cc
only_limit w n (Bad_input at why) is = absurd cc
only_limit w n (At_limit what at) is = let a : what ≡ w = cc in let b : at ≡ n = cc in rw (a, b) refl

-- ---- at the end of the input

abbrev by_next : ℕ → Next → Stream
by_next fuel Part = ends_with Short
by_next fuel (Whole body rest) = with_body body (stream_from fuel rest)
by_next fuel Bad = ends_with Bad_length

by_next_is : (fuel : ℕ) (n : Next) → (elim n as (λ _. Stream) [ Part ↦ ends_with Short | Whole body rest ↦ with_body body (stream_from fuel rest) | Bad ↦ ends_with Bad_length ]) ≡ by_next fuel n
by_next_is fuel Part = refl
by_next_is fuel (Whole body rest) = refl
by_next_is fuel Bad = refl

not_empty : (fuel : ℕ) (n : Next) → (by_next fuel n).bodies ≡ [] → (by_next fuel n).rest ≡ Nothing → ⊥
not_empty fuel Part none rest = absurd (let clash : Short ≡ Nothing = rest in cc)
not_empty fuel (Whole body more) none rest = absurd (let clash : body ∷ (stream_from fuel more).bodies ≡ [] = none in cc)
not_empty fuel Bad none rest = absurd (let clash : Bad_length ≡ Nothing = rest in cc)

-- a stream with nothing in it has no bytes
no_bytes : (bytes : List ℕ) → (stream bytes).bodies ≡ [] → (stream bytes).rest ≡ Nothing → bytes ≡ []
no_bytes [] none rest = refl
no_bytes (b ∷ bytes) none rest =
    let same : stream (b ∷ bytes) ≡ by_next (length bytes) (next_in (b ∷ bytes)) = by_next_is (length bytes) (next_in (b ∷ bytes)) in
    absurd (not_empty (length bytes) (next_in (b ∷ bytes)) (ap (λ (s : Stream). s.bodies) (sym same) ∙ none) (ap (λ (s : Stream). s.rest) (sym same) ∙ rest))

clean_rest : (number : ℕ) (rest : Rest) → ended {A = Given} (rest_ending number rest) ≡ Ok None → rest ≡ Nothing
clean_rest number Nothing is = refl
clean_rest number Short is = absurd cc
clean_rest number Bad_length is = absurd cc

-- no event comes, and nothing is bad
ends_clean : (most at declares : ℕ) (bodies : List (List ℕ)) (rest : Rest) → first_event (events_from most at declares bodies rest) ≡ Ok None → (bodies ≡ []) × (rest ≡ Nothing)
ends_clean most at declares [] rest is = (refl, clean_rest at rest is)
ends_clean most at declares (b ∷ bs) rest is = absurd (said (event_in b) (ap first_event (sym (events_step most at declares b bs rest)) ∙ is))
  where
    limits : (past over : Bool) (g : Given) (more : Input) → first_event (limits_by past over at g more) ≡ Ok None → ⊥
    limits true over g more x = absurd cc
    limits false true g more x = absurd cc
    limits false false g more x = absurd cc

    said : (o : Option Given) → first_event (events_by most at declares o (λ g. events_from most (suc at) (declares + declared_by g) bs rest)) ≡ Ok None → ⊥
    said None x = absurd cc
    said (Some g) x = limits (nat_lt most at) (nat_lt 256 (declares + declared_by g)) g (events_from most (suc at) (declares + declared_by g) bs rest) x

module _ (whole : Input) (gs : List Given) (place : EventPlace) (left : Option (List ℕ)) (unstopped : place.place.stop ≡ None) (t : Tells whole gs place left) where
  all : List ℕ
  all = place.place.held ++ t.rest

  answer_is : answer_event place (place.place.held ++ t.rest) ≡ first_event (input_at place (stream (place.place.held ++ t.rest)))
  answer_is = ap (λ (o : Option Stop). elim o as (λ _. Result (Option Given) Stop) [ Some stop ↦ Err stop | None ↦ first_event (input_at place (stream (place.place.held ++ t.rest))) ]) unstopped

  left_is : bytes_left place.place left ≡ Some (place.place.held ++ t.rest)
  left_is = ap (together place.place.held) t.is

  ends_so : (ending : Ending) (r : Result (Option Given) Stop) → ended ending ≡ r → r ≡ answer_event place (place.place.held ++ t.rest)
      → ((x : Given) → Ok (Some x) ≡ r → ⊥) → ((d : Ending) → ended {A = Given} d ≡ r → d ≡ ending) → whole ≡ record { events = gs; ending = ending }
  ends_so ending r is answer not_one only =
      let i = input_at place (stream (place.place.held ++ t.rest)) in
      let e : IsEnd (record { events = i.events; ending = i.ending }) ending = ends_by i.events i.ending ending r is (sym (answer ∙ answer_is)) not_one only in
      t.input ∙ ap (with_events gs) e.is ∙ ap (λ (l : List Given). record { events = l; ending = ending }) (append-nil gs)

  empty_so : answer_event place (place.place.held ++ t.rest) ≡ Ok None → place.place.held ++ t.rest ≡ []
  empty_so answer =
      let clean = ends_clean place.most (suc place.place.at) place.declares (stream (place.place.held ++ t.rest)).bodies (stream (place.place.held ++ t.rest)).rest (sym answer_is ∙ answer) in
      no_bytes (place.place.held ++ t.rest) clean.0 clean.1

  all_read : (new : EventPlace) (unread : Option (List ℕ)) → EndsEvents place left new unread → place.place.held ++ t.rest ≡ [] → unread ≡ Some []
  all_read new unread ends empty = go unread (ap (λ (h : List ℕ). together h unread) (sym ends.held) ∙ ends.bytes ∙ left_is ∙ ap (λ (l : List ℕ). Some l) empty)
    where
      go : (u : Option (List ℕ)) → together [] u ≡ Some [] → u ≡ Some []
      go None is = absurd cc
      go (Some l) is = is

  pub ends_done : (new : EventPlace) (unread : Option (List ℕ)) → EndsEvents place left new unread → IsFor (answer_event place) (bytes_left place.place left) (Ok None) → (whole ≡ record { events = gs; ending = Done }) × (unread ≡ Some [])
  ends_done new unread ends for =
      let answer : Ok None ≡ answer_event place (place.place.held ++ t.rest) = for (place.place.held ++ t.rest) left_is in
      (ends_so Done (Ok None) refl answer (λ x e. absurd cc) only_done, all_read new unread ends (empty_so (sym answer)))

  pub ends_bad : (n : ℕ) (w : Why) → IsFor (answer_event place) (bytes_left place.place left) (Err (Stop.BadInput n w)) → whole ≡ record { events = gs; ending = Bad_input n w }
  ends_bad n w for = ends_so (Bad_input n w) (Err (Stop.BadInput n w)) refl (for (place.place.held ++ t.rest) left_is) (λ x e. absurd cc) (only_bad n w)

  pub ends_limit : (w : What) (n : ℕ) → IsFor (answer_event place) (bytes_left place.place left) (Err (Stop.Limit w n)) → whole ≡ record { events = gs; ending = At_limit w n }
  ends_limit w n for = ends_so (At_limit w n) (Err (Stop.Limit w n)) refl (for (place.place.held ++ t.rest) left_is) (λ x e. absurd cc) (only_limit w n)

module _ (bytes : List ℕ) (gs : List Given) (place : EventPlace) (left : Option (List ℕ)) (t : Tells (input_of bytes) gs place left) where
  pub ends_short : (new : Place) (unread : Option (List ℕ)) → IsCutOff place.place left new unread → IsCutShort bytes gs unread
  ends_short new unread cut = go unread refl
    where
      go : (u : Option (List ℕ)) → unread ≡ u → IsCutShort bytes gs unread
      go None is = absurd (let clash : None ≡ Some (place.place.held ++ t.rest) = ap (together new.held) (sym is) ∙ cut.bytes ∙ ap (together place.place.held) t.is in cc)
      go (Some rest) is =
          let same : Some (new.held ++ rest) ≡ Some (place.place.held ++ t.rest) = ap (together new.held) (sym is) ∙ cut.bytes ∙ ap (together place.place.held) t.is in
          let e : place.place.held ++ t.rest ≡ new.held ++ rest = cc in
          record {
            place = place;
            held = new.held;
            rest = rest;
            unread_is = is;
            part = cut.part;
            are = t.input ∙ ap (λ (l : List ℕ). with_events gs (input_at place (stream l))) e;
          }
