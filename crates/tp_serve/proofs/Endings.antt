-- How the events of a source come to their end.
use Rattle.std.proofs.Common.{◌≡◌, inl, inr, ◌≤◌, ◌<◌, ℕ, suc, Option, Some, None, Result, Ok, Err, List, [], ◌∷◌, ◌++◌, length, refl, sym, ap, subst, ◌∙◌, arith, append_assoc}
use Rattle.std.specs.Prelude.{option_map, OnOk, IfErr}
use Rattle.std.proofs.lemmas.List.{append-nil}
use Rattle.tp_outside.specs.Story.{Story}
use Rattle.tp_records.specs.declared.body.Event.{Event as Given}
use Rattle.tp_model.specs.NodeRun.{Opening, node_run}
use Rattle.tp_model.specs.NodeTranscript.{written_of, input_of}
use Rattle.tp_journal.specs.Keeping.{Standing}
use Rattle.tp_streams.specs.declared.stop.Stop.{Stop}
use Rattle.tp_streams.specs.Stops.{IsFaultOf, IsEventStop}
use Rattle.tp_streams.specs.Taken.{Place, bytes_left, IsFor, IsCutOff}
use Rattle.tp_streams.specs.Events.{EventPlace, events_left, answer_event, HandsEvent, EndsEvents}
use Rattle.tp_streams.specs.Written.{WritesPrefix}
use Rattle.tp_site.specs.Site.{Site}
use Rattle.tp_serve.specs.Answering.{IsAnswerStop}
use Rattle.tp_serve.specs.Progress.{IsServing, RestsOn, IsAhead, IsSettled, HasFailed, SettlesAll, SettlesSite, IsSettleStop, finished, Finishes, KeepsUp, HasAnswered, ServesOne, answer_bytes, with_events, first_place}
use Rattle.tp_serve.specs.Serving.{GoesOn, EndsServing, IsEventsStop}
use Rattle.tp_serve.proofs.Lists.{length_more}
use Rattle.tp_serve.proofs.Runs.{written_next}
use Rattle.tp_serve.proofs.Ahead.{is_ahead, shut_ahead}
use Rattle.tp_serve.proofs.Inputs.{with_none, with_one, Tells, tells, goes_on, ends_done, ends_bad, ends_limit, ends_short}

abbrev stopped_with : Stop → Result (Option Given) Stop
stopped_with stop = Err stop

-- ---- prefixes

all_of_it : (before bytes : List ℕ) (new : Option (List ℕ)) → new ≡ Some (before ++ bytes) → WritesPrefix before bytes new
all_of_it before bytes new is = (bytes, ([], sym (append-nil bytes)), is)

-- ---- what waits

-- The first of the events are on the disk, and their outputs were written; those of the others wait, or there was no memory for
-- some of them.
pub record Waits {K : Type 0} (standing : K → Standing) (o : Opening) (begun : Option Story) (faults : ℕ) (left written : Option (List ℕ)) (events all : List Given) (output : Option (List ℕ)) (waiting : List ℕ) (s : Site K) : Type 0 where
  pub is : IsAhead standing o events all begun faults s
  pub goes : (bytes : List ℕ) → left ≡ Some bytes → GoesOn bytes all
  pub more : List ℕ
  pub waits : written_of (node_run o all).outputs ≡ (written_of (node_run o events).outputs ++ waiting) ++ more
  pub wrote : (before : List ℕ) → written ≡ Some before → output ≡ Some (before ++ written_of (node_run o events).outputs)

module _ {K : Type 0} (standing : K → Standing) (o : Opening) (begun : Option Story) (faults : ℕ) (left written : Option (List ℕ)) where
  abbrev Answered : EventPlace → Option (List ℕ) → Option (List ℕ) → List ℕ → Site K → Type 0
  Answered place rest output waiting s = HasAnswered standing o begun faults first_place place left rest written output waiting s

  abbrev Ends : Option (List ℕ) → Option (List ℕ) → Result (Unit {0}) Stop → Site K → Type 0
  Ends unread output r s = EndsServing standing o begun faults left unread written output r s

  abbrev outputs : List Given → List ℕ
  outputs gs = written_of (node_run o gs).outputs

  pub at_first : (s : Site K) → IsServing standing o [] None faults s → RestsOn o [] begun (standing s.keeper).lasting → Answered first_place left written [] s
  at_first s serving rests = record {
    events = [];
    all = [];
    ahead = [];
    are = refl;
    serving = serving;
    rests = rests;
    read = with_none (events_left first_place left);
    number = refl;
    waits = refl;
    wrote = λ before is. is ∙ ap (λ (l : List ℕ). Some l) (sym (append-nil before));
  }

  -- there is no memory to begin with
  pub none_begun : (s : Site K) → IsSettled standing o [] begun s → Ends left written (Err Stop.NoMemory) s
  none_begun s settled = record {
    events = [];
    next = [];
    site = (settled, refl);
    read = λ bytes is. record { more = (input_of bytes).events; are = refl };
    wrote = λ before is. all_of_it before [] written (is ∙ ap (λ (l : List ℕ). Some l) (sym (append-nil before)));
  }

  -- ---- what was answered is settled

  abbrev Pending : List Given → List Given → Option (List ℕ) → List ℕ → Site K → Type 0
  Pending events all output waiting s = Waits standing o begun faults left written events all output waiting s

  -- what was written then
  wrote_all : (events all : List Given) (output now : Option (List ℕ)) (waiting more : List ℕ) → outputs all ≡ (outputs events ++ waiting) ++ more → ((before : List ℕ) → written ≡ Some before → output ≡ Some (before ++ outputs events))
      → ((before : List ℕ) → output ≡ Some before → WritesPrefix before waiting now) → (before : List ℕ) → written ≡ Some before → WritesPrefix before (outputs all) now
  wrote_all events all output now waiting more waits wrote part before is =
      let first = outputs events in
      let p = part (before ++ first) (wrote before is) in (
        first ++ p.0,
        (
          p.1.0 ++ more,
          waits ∙ ap (λ (l : List ℕ). (first ++ l) ++ more) p.1.1 ∙ ap (λ (l : List ℕ). l ++ more) (sym (append_assoc first p.0 p.1.0)) ∙ append_assoc (first ++ p.0) p.1.0 more,
        ),
        p.2 ∙ ap (λ (l : List ℕ). Some l) (append_assoc before first p.0),
      )

  module _ (events all : List Given) (output : Option (List ℕ)) (waiting : List ℕ) (s : Site K) (waits : Pending events all output waiting s) (unread now : Option (List ℕ)) (t : Site K) where
    unsettled : (stop : Stop) → SettlesAll standing o events all begun faults (Err stop) t waiting output now → Ends unread now (Err stop) t
    unsettled (Stop.BadInput n why) x = absurd x
    unsettled (Stop.Limit what n) x = absurd x
    unsettled (Stop.Foreign n) x = absurd x
    unsettled (Stop.ReadFault n) x = absurd x
    unsettled (Stop.WriteFault n) x = record {
      events = all;
      next = [];
      site = (x.0, refl);
      read = waits.goes;
      wrote = wrote_all events all output now waiting waits.more waits.waits waits.wrote x.1;
    }
    unsettled (Stop.DiskFault n) x = record {
      events = events;
      next = waits.is.ahead;
      site = subst (λ (l : List Given). HasFailed standing o events l begun faults n t) waits.is.are x.0;
      read = λ bytes is. subst (GoesOn bytes) waits.is.are (waits.goes bytes is);
      wrote = λ before is. x.1 ∙ waits.wrote before is;
    }
    unsettled Stop.NoMemory x = absurd x

    -- it ends as it was to end, or all was not settled
    pub finishes : (end result : Result (Unit {0}) Stop) (before after : ℕ) → Finishes standing s t end result waiting output now before after
        → (SettlesAll standing o events all begun faults (Ok tt) t waiting output now → (standing s.keeper).shut ≡ None → Ends unread now end t) → Ends unread now result t
    finishes end result before after x ends = subst (λ (r : Result (Unit {0}) Stop). Ends unread now r t) (sym x.is) (go x.settled (x.settles.all o events all begun faults waits.is) x.settles.was_open)
      where
        go : (r : Result (Unit {0}) Stop) → SettlesAll standing o events all begun faults r t waiting output now → OnOk r ((standing s.keeper).shut ≡ None) → Ends unread now (finished r end) t
        go (Ok u) settled open_now = ends settled open_now
        go (Err stop) settled open_now = unsettled stop settled

  module _ (place : EventPlace) (rest output : Option (List ℕ)) (waiting : List ℕ) (s : Site K) (answered : Answered place rest output waiting s) where
    told : (bytes : List ℕ) → left ≡ Some bytes → Tells (input_of bytes) answered.all place rest
    told bytes is = tells bytes answered.all place left rest is answered.read

    goes : (bytes : List ℕ) → left ≡ Some bytes → GoesOn bytes answered.all
    goes bytes is = goes_on bytes answered.all place rest (told bytes is)

    waits_all : outputs answered.all ≡ (outputs answered.events ++ waiting) ++ []
    waits_all = answered.waits ∙ sym (append-nil (outputs answered.events ++ waiting))

    pub ahead_of : IsAhead standing o answered.events answered.all begun faults s
    ahead_of = is_ahead standing o answered.events answered.all begun faults s answered.ahead answered.are answered.serving answered.rests

    all_wait : Pending answered.events answered.all output waiting s
    all_wait = record { is = ahead_of; goes = goes; more = []; waits = waits_all; wrote = answered.wrote }

    wrote_now : (now : Option (List ℕ)) → ((before : List ℕ) → output ≡ Some before → now ≡ Some (before ++ waiting)) → (before : List ℕ) → written ≡ Some before → now ≡ Some (before ++ outputs answered.all)
    wrote_now now whole before is =
        whole (before ++ outputs answered.events) (answered.wrote before is)
        ∙ ap (λ (l : List ℕ). Some l) (append_assoc before (outputs answered.events) waiting ∙ ap (λ (l : List ℕ). before ++ l) (sym answered.waits))

    -- ---- before the next event

    -- all was settled
    settled_so : (now : Option (List ℕ)) (t : Site K) → SettlesAll standing o answered.events answered.all begun faults (Ok tt) t waiting output now → IsServing standing o answered.all None faults t → Answered place rest now [] t
    settled_so now t x serving = record {
      events = answered.all;
      all = answered.all;
      ahead = [];
      are = sym (append-nil answered.all);
      serving = serving;
      rests = x.0.rests;
      read = answered.read;
      number = answered.number;
      waits = sym (append-nil (outputs answered.all));
      wrote = wrote_now now x.1;
    }

    pub kept_up : (result : Result (Unit {0}) Stop) (waiting_new : List ℕ) (now : Option (List ℕ)) (t : Site K) (before after : ℕ) → result ≡ Ok tt → KeepsUp standing s t result waiting waiting_new output now before after → Answered place rest now waiting_new t
    kept_up result waiting_new now t before after ok (inl x) =
        subst (λ (w : List ℕ). Answered place rest now w t) (sym x.2)
        (subst (λ (u : Option (List ℕ)). Answered place rest u waiting t) (sym x.3) (subst (Answered place rest output waiting) (sym x.1) answered))
    kept_up result waiting_new now t before after ok (inr x) =
        let y = subst (λ (r : Result (Unit {0}) Stop). SettlesSite standing s t r waiting waiting_new output now before after) ok x in
        subst (λ (w : List ℕ). Answered place rest now w t) (sym y.empty)
        (settled_so now t (y.all o answered.events answered.all begun faults ahead_of) (y.serves o answered.all faults answered.serving))

    pub not_kept_up : (result : Result (Unit {0}) Stop) (stop : Stop) (waiting_new : List ℕ) (now : Option (List ℕ)) (t : Site K) (before after : ℕ) (unread : Option (List ℕ)) → result ≡ Err stop → KeepsUp standing s t result waiting waiting_new output now before after → Ends unread now (Err stop) t
    not_kept_up result stop waiting_new now t before after unread failed (inl x) = absurd (let clash = sym failed ∙ x.0 in cc)
    not_kept_up result stop waiting_new now t before after unread failed (inr x) =
        let y = subst (λ (r : Result (Unit {0}) Stop). SettlesSite standing s t r waiting waiting_new output now before after) failed x in
        unsettled answered.events answered.all output waiting s all_wait unread now t stop (y.all o answered.events answered.all begun faults ahead_of)

    -- ---- one event more

    read_more : (g : Given) (new : EventPlace) (more : Option (List ℕ)) → HandsEvent place rest g new more → events_left first_place left ≡ option_map (with_events (answered.all ++ g ∷ [])) (events_left new more)
    read_more g new more hands = answered.read ∙ ap (option_map (with_events answered.all)) hands.events ∙ with_one answered.all g (events_left new more)

    module _ (g : Given) (new : EventPlace) (more : Option (List ℕ)) (hands : HandsEvent place rest g new more) (waiting_new : List ℕ) (t : Site K) (lasting : (standing t.keeper).lasting ≡ (standing s.keeper).lasting) where
      rests_so : RestsOn o answered.events begun (standing t.keeper).lasting
      rests_so = subst (RestsOn o answered.events begun) (sym lasting) answered.rests

      are_more : answered.all ++ g ∷ [] ≡ answered.events ++ (answered.ahead ++ g ∷ [])
      are_more = ap (λ (l : List Given). l ++ g ∷ []) answered.are ∙ append_assoc answered.events answered.ahead (g ∷ [])

      waits_more : outputs (answered.all ++ g ∷ []) ≡ (outputs answered.events ++ waiting) ++ answer_bytes o answered.all g
      waits_more = written_next o answered.all g ∙ ap (λ (l : List ℕ). l ++ answer_bytes o answered.all g) answered.waits

      pub one_more_event : ServesOne standing o answered.all None faults new.place.at g (Ok tt) t waiting waiting_new → Answered new more output waiting_new t
      one_more_event one = record {
        events = answered.events;
        all = answered.all ++ g ∷ [];
        ahead = answered.ahead ++ g ∷ [];
        are = are_more;
        serving = one.0;
        rests = rests_so;
        read = read_more g new more hands;
        number = hands.at ∙ ap suc answered.number ∙ sym (length_more answered.all g);
        waits = waits_more ∙ append_assoc (outputs answered.events) waiting (answer_bytes o answered.all g) ∙ ap (λ (l : List ℕ). outputs answered.events ++ l) (sym one.1);
        wrote = answered.wrote;
      }

      -- ---- the event is not served

      number_is : new.place.at ≡ suc (length answered.all)
      number_is = hands.at ∙ ap suc answered.number

      with_it : (bytes : List ℕ) → left ≡ Some bytes → GoesOn bytes (answered.all ++ g ∷ [])
      with_it bytes is = goes_on bytes (answered.all ++ g ∷ []) new more (tells bytes (answered.all ++ g ∷ []) new left more is (read_more g new more hands))

      -- nothing of it is so
      without_it : waiting_new ≡ waiting → IsAhead standing o answered.events answered.all begun faults t → Pending answered.events answered.all output waiting_new t
      without_it same is = record { is = is; goes = goes; more = []; waits = waits_all ∙ ap (λ (l : List ℕ). (outputs answered.events ++ l) ++ []) (sym same); wrote = answered.wrote }

      wrote_same : (now : Option (List ℕ)) → waiting_new ≡ waiting → ((before : List ℕ) → output ≡ Some before → now ≡ Some (before ++ waiting_new)) → (before : List ℕ) → written ≡ Some before → now ≡ Some (before ++ outputs answered.all)
      wrote_same now same whole = wrote_now now (λ before is. whole before is ∙ ap (λ (l : List ℕ). Some (before ++ l)) same)

      module _ (now : Option (List ℕ)) (u : Site K) (result : Result (Unit {0}) Stop) (before after : ℕ) where
        abbrev Fin : Stop → Type 0
        Fin stop = Finishes standing t u (Err stop) result waiting_new output now before after

        pub not_served : (stop : Stop) → ServesOne standing o answered.all None faults new.place.at g (Err stop) t waiting waiting_new → Fin stop → Ends more now result u
        not_served (Stop.BadInput n why) x fin = absurd x
        not_served (Stop.Limit what n) x fin =
            finishes answered.events answered.all output waiting_new t (without_it x.4 (is_ahead standing o answered.events answered.all begun faults t answered.ahead answered.are x.0 rests_so)) more now u (Err (Stop.Limit what n)) result before after fin
            (λ settled open_now. record {
              events = answered.all;
              next = [];
              site = (settled.0, refl);
              read = λ bytes is. inr (g, with_it bytes is, x.3, x.1, x.2 ∙ number_is);
              wrote = wrote_same now x.4 settled.1;
            })
        not_served (Stop.Foreign n) x fin = absurd x
        not_served (Stop.ReadFault n) x fin = absurd x
        not_served (Stop.WriteFault n) x fin = absurd x
        not_served (Stop.DiskFault n) x fin =
            finishes answered.events answered.all output waiting_new t (without_it x.1 (shut_ahead standing o answered.events answered.all begun faults t s n answered.ahead answered.are answered.serving rests_so x.0)) more now u (Err (Stop.DiskFault n)) result before after fin
            (λ settled open_now. absurd (let clash : None ≡ Some n = sym open_now ∙ x.0.shut in cc))
        not_served Stop.NoMemory (inl y, same) fin =
            finishes answered.events answered.all output waiting_new t (without_it same (is_ahead standing o answered.events answered.all begun faults t answered.ahead answered.are y rests_so)) more now u (Err Stop.NoMemory) result before after fin
            (λ settled open_now. record {
              events = answered.all;
              next = [];
              site = (settled.0, refl);
              read = goes;
              wrote = λ before is. all_of_it before (outputs answered.all) now (wrote_same now same settled.1 before is);
            })
        not_served Stop.NoMemory (inr y, same) fin =
            let waits : outputs (answered.all ++ g ∷ []) ≡ (outputs answered.events ++ waiting_new) ++ answer_bytes o answered.all g = waits_more ∙ ap (λ (l : List ℕ). (outputs answered.events ++ l) ++ answer_bytes o answered.all g) (sym same) in
            finishes answered.events (answered.all ++ g ∷ []) output waiting_new t
            (record {
              is = is_ahead standing o answered.events (answered.all ++ g ∷ []) begun faults t (answered.ahead ++ g ∷ []) are_more y rests_so;
              goes = with_it;
              more = answer_bytes o answered.all g;
              waits = waits;
              wrote = answered.wrote;
            })
            more now u (Err Stop.NoMemory) result before after fin
            (λ settled open_now. record {
              events = answered.all ++ g ∷ [];
              next = [];
              site = (settled.0, refl);
              read = with_it;
              wrote = wrote_all answered.events (answered.all ++ g ∷ []) output now waiting_new (answer_bytes o answered.all g) waits answered.wrote (λ b is. all_of_it b waiting_new now (settled.1 b is));
            })

    -- ---- no event comes

    module _ (unstopped : place.place.stop ≡ None) (unread now : Option (List ℕ)) (u : Site K) (result : Result (Unit {0}) Stop) (before after : ℕ) where
      abbrev Finished : Result (Unit {0}) Stop → Type 0
      Finished end = Finishes standing s u end result waiting output now before after

      ends_so : (end : Result (Unit {0}) Stop) → Finished end → (SettlesAll standing o answered.events answered.all begun faults (Ok tt) u waiting output now → Ends unread now end u) → Ends unread now result u
      ends_so end fin ends = finishes answered.events answered.all output waiting s all_wait unread now u end result before after fin (λ settled open_now. ends settled)

      -- the loop is through, or there is no memory for the event
      pub through : Finished (Err Stop.NoMemory) → Ends unread now result u
      through fin = ends_so (Err Stop.NoMemory) fin (λ settled. record {
        events = answered.all;
        next = [];
        site = (settled.0, refl);
        read = goes;
        wrote = λ b is. all_of_it b (outputs answered.all) now (wrote_now now settled.1 b is);
      })

      pub all_served : (new : EventPlace) → EndsEvents place rest new unread → IsFor (answer_event place) (bytes_left place.place rest) (Ok None) → Finished (Ok tt) → Ends unread now result u
      all_served new ends for fin = ends_so (Ok tt) fin (λ settled. record {
        events = answered.all;
        next = [];
        site = (settled.0, refl);
        read = λ bytes is. ends_done (input_of bytes) answered.all place rest unstopped (told bytes is) new unread ends for;
        wrote = wrote_now now settled.1;
      })

      pub none_served : (stop : Stop) (count later : ℕ) (new : Place) → IsFor (answer_event place) (bytes_left place.place rest) (Err stop) → IsEventStop (suc place.place.at) count later stop
          → ((n : ℕ) → stopped_with stop ≡ stopped_with (Stop.ReadFault n) → IsCutOff place.place rest new unread) → Finished (Err stop) → Ends unread now result u
      none_served (Stop.BadInput n why) count later new for cause cut fin = ends_so (Err (Stop.BadInput n why)) fin (λ settled. record {
        events = answered.all;
        next = [];
        site = (settled.0, refl);
        read = λ bytes is. ends_bad (input_of bytes) answered.all place rest unstopped (told bytes is) n why for;
        wrote = wrote_now now settled.1;
      })
      none_served (Stop.Limit what n) count later new for cause cut fin = ends_so (Err (Stop.Limit what n)) fin (λ settled. record {
        events = answered.all;
        next = [];
        site = (settled.0, refl);
        read = λ bytes is. inl (ends_limit (input_of bytes) answered.all place rest unstopped (told bytes is) what n for);
        wrote = wrote_now now settled.1;
      })
      none_served (Stop.Foreign n) count later new for cause cut fin = absurd cause
      none_served (Stop.ReadFault n) count later new for cause cut fin = ends_so (Err (Stop.ReadFault n)) fin (λ settled. record {
        events = answered.all;
        next = [];
        site = (settled.0, refl);
        read = λ bytes is. ends_short bytes answered.all place rest (told bytes is) new unread (cut n refl);
        wrote = wrote_now now settled.1;
      })
      none_served (Stop.WriteFault n) count later new for cause cut fin = absurd cause
      none_served (Stop.DiskFault n) count later new for cause cut fin = absurd cause
      none_served Stop.NoMemory count later new for cause cut fin = through fin

-- ---- causes

risen_since : (faults first old new : ℕ) → first ≤ old → IsFaultOf faults old new → IsFaultOf faults first new
risen_since faults first old new le x = record { risen = omega (arith, le, x.risen); told = x.told }

pub read_stop : (number source old new sink wrote : ℕ) (stop : Stop) → source ≤ old → IsEventStop (suc number) old new stop → IsEventsStop source new sink wrote stop
read_stop number source old new sink wrote (Stop.BadInput at why) le x = (omega (arith, x.0), x.1)
read_stop number source old new sink wrote (Stop.Limit what at) le x = omega (arith, x.0)
read_stop number source old new sink wrote (Stop.Foreign at) le x = x
read_stop number source old new sink wrote (Stop.ReadFault n) le x = risen_since n source old new le x
read_stop number source old new sink wrote (Stop.WriteFault n) le x = absurd x
read_stop number source old new sink wrote (Stop.DiskFault n) le x = absurd x
read_stop number source old new sink wrote Stop.NoMemory le x = tt

-- an answer that there is not
pub answer_stop : (at source read sink wrote : ℕ) (stop : Stop) → 0 < at → IsAnswerStop at stop → IsEventsStop source read sink wrote stop
answer_stop at source read sink wrote (Stop.BadInput n why) far x = absurd x
answer_stop at source read sink wrote (Stop.Limit what n) far x = omega (arith, far, x.1)
answer_stop at source read sink wrote (Stop.Foreign n) far x = x
answer_stop at source read sink wrote (Stop.ReadFault n) far x = absurd x
answer_stop at source read sink wrote (Stop.WriteFault n) far x = absurd x
answer_stop at source read sink wrote (Stop.DiskFault n) far x = tt
answer_stop at source read sink wrote Stop.NoMemory far x = tt

-- what was answered is not forced, or not written
pub settle_stop : (source read first sink wrote : ℕ) (stop : Stop) → first ≤ sink → IsSettleStop sink wrote stop → IsEventsStop source read first wrote stop
settle_stop source read first sink wrote (Stop.BadInput n why) le x = absurd x
settle_stop source read first sink wrote (Stop.Limit what n) le x = absurd x
settle_stop source read first sink wrote (Stop.Foreign n) le x = x
settle_stop source read first sink wrote (Stop.ReadFault n) le x = absurd x
settle_stop source read first sink wrote (Stop.WriteFault n) le x = risen_since n first sink wrote le x
settle_stop source read first sink wrote (Stop.DiskFault n) le x = tt
settle_stop source read first sink wrote Stop.NoMemory le x = absurd x

pub finish_stop : (source read first sink wrote : ℕ) (settled end : Result (Unit {0}) Stop) → first ≤ sink → IfErr settled (IsSettleStop sink wrote) → IfErr end (IsEventsStop source read first wrote) → IfErr (finished settled end) (IsEventsStop source read first wrote)
finish_stop source read first sink wrote (Ok u) end le x ends = ends
finish_stop source read first sink wrote (Err stop) end le x ends = settle_stop source read first sink wrote stop le x
