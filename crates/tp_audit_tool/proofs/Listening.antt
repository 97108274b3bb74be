-- How far a stream was read, and how the rest of it will be heard.
use Rattle.std.proofs.Common.{◌≡◌, ℕ, suc, ◌⊎◌, inl, inr, Option, Some, None, Result, Ok, Err, List, [], ◌∷◌, ◌++◌, length, refl, sym, ap, ◌∙◌, subst, arith}
use Rattle.std.specs.Prelude.{option_map}
use Rattle.tp_framing.specs.Frames.{Next, Part, Whole, Bad, next_in, Rest, Nothing, Short, Bad_length, Stream, stream, stream_from, ends_with, with_body, frame_bytes}
use Rattle.tp_model.specs.NodeTranscript.{rest_ending}
use Rattle.tp_model.specs.declared.verdict.Why.{Why}
use Rattle.tp_streams.specs.declared.stop.Stop.{Stop}
use Rattle.tp_streams.specs.Stops.{ended, IsFrameStop}
use Rattle.tp_streams.specs.Taken.{Place, together, bytes_left, first_body, answer, IsFor, Ends, HandsOut}
use Rattle.tp_audit.specs.Entries.{SiteLog}
use Rattle.tp_audit_tool.specs.declared.hearing.Hearing.{Hearing}
use Rattle.tp_audit_tool.specs.AuditTranscript.{Progress, nothing_heard, closed, heard_at, heard_from, heard}
use Rattle.tp_audit_tool.specs.Audited.{Hears, StopsHearing, IsOfInput, IsHearStop}
use Rattle.tp_audit_tool.specs.Hearing.{IsAt}

-- these bytes are left, and what is heard of all is heard of them from here on
pub record IsLeft (bytes : List ℕ) (p : Place) (left : Option (List ℕ)) (at : Progress) : Type 0 where
  pub all : List ℕ
  pub is : bytes_left p left ≡ Some all
  pub heard : heard bytes ≡ heard_from (suc p.at) at (stream all).bodies (stream all).rest

pub record Way (start : Option (List ℕ)) (p : Place) (left : Option (List ℕ)) (h : Hearing) : Type 0 where
  pub stop : p.stop ≡ None
  pub at : Progress
  pub is : IsAt at h
  pub rest : (bytes : List ℕ) → start ≡ Some bytes → IsLeft bytes p left at

pub begins : (start : Option (List ℕ)) (p : Place) (h : Hearing) → p ≡ record { held = []; at = 0; stop = None } → IsAt nothing_heard h → Way start p start h
begins start p h fresh is = subst (λ q. Way start q start h) (sym fresh) (record { stop = refl; at = nothing_heard; is = is; rest = λ bytes there. record { all = bytes; is = ap (together []) there; heard = refl } })

-- ---- one frame

rest_of : (o : Option (List ℕ)) (body all : List ℕ) → option_map (λ b. frame_bytes body ++ b) o ≡ Some all → (rest : List ℕ) × (o ≡ Some rest)
rest_of None body all is = absurd cc
rest_of (Some rest) body all is = (rest, refl)

-- the frame was the first of those that are left
pub record IsNext (bytes : List ℕ) (p : Place) (left : Option (List ℕ)) (at : Progress) (body : List ℕ) : Type 0 where
  pub all : List ℕ
  pub is : bytes_left p left ≡ Some all
  pub heard : heard bytes ≡ heard_from p.at at (body ∷ (stream all).bodies) (stream all).rest

pub next_is : (bytes : List ℕ) (old new : Place) (left rest : Option (List ℕ)) (at : Progress) (body : List ℕ) → IsLeft bytes old left at → HandsOut old left body new rest → IsNext bytes new rest at body
next_is bytes old new left rest at body is hands =
    let more = rest_of (bytes_left new rest) body is.all (sym hands.bytes ∙ is.is) in
    let streams : Some (stream is.all) ≡ Some (with_body body (stream more.0)) =
    ap (option_map stream) (sym is.is) ∙ hands.frames ∙ ap (λ o. option_map (with_body body) (option_map stream o)) more.1 in
    let same : stream is.all ≡ with_body body (stream more.0) = cc in
    record {
      all = more.0;
      is = more.1;
      heard = is.heard ∙ ap (λ s. heard_from (suc old.at) at s.bodies s.rest) same ∙ ap (λ n. heard_from n at (body ∷ (stream more.0).bodies) (stream more.0).rest) (sym hands.at);
    }

pub goes_further : (start : Option (List ℕ)) (old new : Place) (left rest : Option (List ℕ)) (h g : Hearing) (body : List ℕ) (n : ℕ) (way : Way start old left h) → HandsOut old left body new rest → n ≡ new.at
    → (q : Progress) → heard_at n way.at body ≡ Ok q → IsAt q g → Way start new rest g
goes_further start old new left rest h g body n way hands number q reached is = record {
  stop = hands.stop;
  at = q;
  is = is;
  rest = λ bytes there.
      let next = next_is bytes old new left rest way.at body (way.rest bytes there) hands in
      record {
        all = next.all;
        is = next.is;
        heard = next.heard ∙ ap (λ r. elim r as (λ _. Result (List SiteLog) Stop) [ Err stop ↦ Err stop | Ok p ↦ heard_from (suc new.at) p (stream next.all).bodies (stream next.all).rest ]) (ap (λ m. heard_at m way.at body) (sym number) ∙ reached);
      };
}

-- a stop of the definitions
by_input : (bytes : List ℕ) (number : ℕ) (stop : Stop) → IsOfInput number stop → heard bytes ≡ Err stop → StopsHearing bytes stop
by_input bytes number (Stop.BadInput at why) kind is = is
by_input bytes number (Stop.Limit what at) kind is = is
by_input bytes number (Stop.Foreign at) kind is = is
by_input bytes number (Stop.ReadFault faults) kind is = tt
by_input bytes number (Stop.WriteFault faults) kind is = kind
by_input bytes number (Stop.DiskFault faults) kind is = kind
by_input bytes number Stop.NoMemory kind is = tt

pub stops_or_starves : (bytes : List ℕ) (number : ℕ) (stop : Stop) → IsOfInput number stop → (heard bytes ≡ Err stop) ⊎ (stop ≡ Stop.NoMemory) → StopsHearing bytes stop
stops_or_starves bytes number stop kind (inl is) = by_input bytes number stop kind is
stops_or_starves bytes number stop kind (inr is) = subst (StopsHearing bytes) (sym is) tt

pub stops_here : (start : Option (List ℕ)) (old new : Place) (left rest : Option (List ℕ)) (h : Hearing) (body : List ℕ) (n : ℕ) (way : Way start old left h) → HandsOut old left body new rest → n ≡ new.at
    → (stop : Stop) → IsOfInput n stop → (heard_at n way.at body ≡ Err stop) ⊎ (stop ≡ Stop.NoMemory) → (bytes : List ℕ) → start ≡ Some bytes → StopsHearing bytes stop
stops_here start old new left rest h body n way hands number stop kind (inr is) bytes there = stops_or_starves bytes n stop kind (inr is)
stops_here start old new left rest h body n way hands number stop kind (inl is) bytes there =
    let next = next_is bytes old new left rest way.at body (way.rest bytes there) hands in
    by_input bytes n stop kind (next.heard ∙ ap (λ r. elim r as (λ _. Result (List SiteLog) Stop) [ Err s ↦ Err s | Ok p ↦ heard_from (suc new.at) p (stream next.all).bodies (stream next.all).rest ]) (ap (λ m. heard_at m way.at body) (sym number) ∙ is))

-- ---- the end

fresh_answer : (p : Place) (all : List ℕ) → p.stop ≡ None → answer p all ≡ first_body (suc p.at) (stream all)
fresh_answer p all none = ap (λ o. elim o as (λ _. Result (Option (List ℕ)) Stop) [ Some stop ↦ Err stop | None ↦ first_body (suc p.at) (stream all) ]) none

-- the input ends where there is no body more
end_of : (at : ℕ) (p : Progress) (bodies : List (List ℕ)) (rest : Rest) (r : Result (Option (List ℕ)) Stop)
    → r ≡ elim bodies as (λ _. Result (Option (List ℕ)) Stop) [ [] ↦ ended (rest_ending at rest) | b ∷ bs ↦ Ok (Some b) ] → r ≡ Ok None → (bodies ≡ []) × (rest ≡ Nothing)
end_of at p [] Nothing r is none = (refl, refl)
end_of at p [] Short r is none = absurd cc
end_of at p [] Bad_length r is none = absurd cc
end_of at p (b ∷ bs) rest r is none = absurd cc

bad_end : (at : ℕ) (p : Progress) (bodies : List (List ℕ)) (rest : Rest) (stop : Stop)
    → Err stop ≡ elim bodies as (λ _. Result (Option (List ℕ)) Stop) [ [] ↦ ended (rest_ending at rest) | b ∷ bs ↦ Ok (Some b) ] → heard_from at p bodies rest ≡ Err stop
bad_end at p [] Nothing stop is = absurd cc
bad_end at p [] Short stop is = (let same : Stop.BadInput at Why.Short ≡ stop = cc in ap (λ s. Err s) same)
bad_end at p [] Bad_length stop is = (let same : Stop.BadInput at Why.Length ≡ stop = cc in ap (λ s. Err s) same)
bad_end at p (b ∷ bs) rest stop is = absurd cc

stream_empty : (all : List ℕ) → (stream all).bodies ≡ [] → (stream all).rest ≡ Nothing → all ≡ []
stream_empty [] none nothing = refl
stream_empty (b ∷ bytes) none nothing = go (next_in (b ∷ bytes)) none nothing
  where
    shown : Next → Stream
    shown n = elim n [ Part ↦ ends_with Short | Whole body rest ↦ with_body body (stream_from (length bytes) rest) | Bad ↦ ends_with Bad_length ]

    go : (n : Next) → (shown n).bodies ≡ [] → (shown n).rest ≡ Nothing → b ∷ bytes ≡ []
    go Part i j = absurd cc
    go (Whole body rest) i j = absurd cc
    go Bad i j = absurd cc

-- what stops a frame
pub stops_reading : (start : Option (List ℕ)) (p : Place) (left : Option (List ℕ)) (h : Hearing) (stop : Stop) (old new : ℕ) (way : Way start p left h) → IsFor (answer p) (bytes_left p left) (Err stop) → IsFrameStop (suc p.at) old new stop
    → (bytes : List ℕ) → start ≡ Some bytes → StopsHearing bytes stop
stops_reading start p left h (Stop.BadInput at why) old new way for stops bytes there =
    let l = way.rest bytes there in
    l.heard ∙ bad_end (suc p.at) way.at (stream l.all).bodies (stream l.all).rest (Stop.BadInput at why) (for l.all l.is ∙ fresh_answer p l.all way.stop)
stops_reading start p left h (Stop.Limit what at) old new way for stops bytes there = absurd stops
stops_reading start p left h (Stop.Foreign at) old new way for stops bytes there = absurd stops
stops_reading start p left h (Stop.ReadFault faults) old new way for stops bytes there = tt
stops_reading start p left h (Stop.WriteFault faults) old new way for stops bytes there = stops
stops_reading start p left h (Stop.DiskFault faults) old new way for stops bytes there = stops
stops_reading start p left h Stop.NoMemory old new way for stops bytes there = tt

pub input_kind : (n number old new : ℕ) (stop : Stop) → number ≡ suc n → IsOfInput number stop → IsHearStop old new stop
input_kind n number old new (Stop.BadInput at why) is kind = omega (arith, is, kind)
input_kind n number old new (Stop.Limit what at) is kind = omega (arith, is, kind)
input_kind n number old new (Stop.Foreign at) is kind = tt
input_kind n number old new (Stop.ReadFault faults) is kind = absurd kind
input_kind n number old new (Stop.WriteFault faults) is kind = kind
input_kind n number old new (Stop.DiskFault faults) is kind = kind
input_kind n number old new Stop.NoMemory is kind = tt

-- the input is at its end
pub record IsEnded (bytes : List ℕ) (at : Progress) (rest : Option (List ℕ)) : Type 0 where
  pub heard : heard bytes ≡ elim (closed at) [ Err stop ↦ Err stop | Ok q ↦ Ok q.logs ]
  pub whole : rest ≡ Some []

pub is_ended : (start : Option (List ℕ)) (p q : Place) (left rest : Option (List ℕ)) (h : Hearing) (way : Way start p left h) → IsFor (answer p) (bytes_left p left) (Ok None) → Ends p left q rest → (bytes : List ℕ) → start ≡ Some bytes → IsEnded bytes way.at rest
is_ended start p q left rest h way for ends bytes there =
    let l = way.rest bytes there in
    let none = end_of (suc p.at) way.at (stream l.all).bodies (stream l.all).rest (Ok None) (for l.all l.is ∙ fresh_answer p l.all way.stop) refl in
    record {
      heard = l.heard ∙ ap (λ bs. heard_from (suc p.at) way.at bs (stream l.all).rest) none.0 ∙ ap (λ r. heard_from (suc p.at) way.at [] r) none.1;
      whole = left_whole rest (ap (λ held. together held rest) (sym ends.held) ∙ ends.bytes ∙ l.is ∙ ap (λ all. Some all) (stream_empty l.all none.0 none.1));
    }
  where
    left_whole : (o : Option (List ℕ)) → together [] o ≡ Some [] → o ≡ Some []
    left_whole None is = absurd cc
    left_whole (Some l) is = is

pub hears_all : (start : Option (List ℕ)) (at q : Progress) (rest : Option (List ℕ)) (g : Hearing) → ((bytes : List ℕ) → start ≡ Some bytes → IsEnded bytes at rest) → closed at ≡ Ok q → IsAt q g
    → (bytes : List ℕ) → start ≡ Some bytes → Hears bytes g.audit rest
hears_all start at q rest g end closes is bytes there = record {
  logs = q.logs;
  heard = (end bytes there).heard ∙ ap (λ r. elim r as (λ _. Result (List SiteLog) Stop) [ Err stop ↦ Err stop | Ok p ↦ Ok p.logs ]) closes;
  is = is.audit;
  whole = (end bytes there).whole;
}

pub stops_closing : (start : Option (List ℕ)) (at : Progress) (rest : Option (List ℕ)) (number : ℕ) (stop : Stop) → ((bytes : List ℕ) → start ≡ Some bytes → IsEnded bytes at rest) → IsOfInput number stop → (closed at ≡ Err stop) ⊎ (stop ≡ Stop.NoMemory)
    → (bytes : List ℕ) → start ≡ Some bytes → StopsHearing bytes stop
stops_closing start at rest number stop end kind (inl is) bytes there = by_input bytes number stop kind ((end bytes there).heard ∙ ap (λ r. elim r as (λ _. Result (List SiteLog) Stop) [ Err s ↦ Err s | Ok p ↦ Ok p.logs ]) is)
stops_closing start at rest number stop end kind (inr is) bytes there = stops_or_starves bytes number stop kind (inr is)
