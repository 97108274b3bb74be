-- One frame after the other, and the end.
use Rattle.std.proofs.Common.{◌≡◌, inl, inr, ◌+◌, ℕ, suc, refl, ap, sym, subst, ◌∙◌, append_assoc, Option, Some, None, List, [], ◌∷◌, ◌++◌, Result, Ok, Err}
use Rattle.std.specs.Prelude.{option_map, OnOk}
use Rattle.std.proofs.lemmas.List.{append-nil}
use Rattle.tp_outside.specs.Story.{Story}
use Rattle.tp_records.specs.declared.body.Event.{Event as Given}
use Rattle.tp_framing.specs.Frames.{Stream, Rest, Nothing, Short, Bad_length, stream, with_body}
use Rattle.tp_model.specs.declared.verdict.Why.{Why}
use Rattle.tp_model.specs.Transcript.{Ending, Done, Bad_input, At_limit}
use Rattle.tp_model.specs.NodeRun.{Opening}
use Rattle.tp_model.specs.NodeTranscript.{rest_ending}
use Rattle.tp_journal.specs.Keeping.{Standing}
use Rattle.tp_streams.specs.declared.stop.Stop.{Stop}
use Rattle.tp_streams.specs.Stops.{ended, IsFrameStop}
use Rattle.tp_streams.specs.Taken.{Place, together, bytes_left, frames_left, first_body, answer, IsFor, HandsOut, IsCutOff}
use Rattle.tp_streams.specs.Written.{WritesPrefix}
use Rattle.tx_face.specs.Face.{Face}
use Rattle.tp_tx.specs.Frames.{declared_in}
use Rattle.tp_tx.specs.Transcript.{Asks, Not_taken, Nothing as Asks_nothing, An_event, Turn, Stops, Goes, TxTranscript, events_with, answer_bytes, turn, turn_by, ends_at, after_bytes, turns_from, first_events}
use Rattle.tp_serve.specs.Progress.{RestsOn, IsAhead, HasFailed, SettlesAll, SettlesSite, finished, Finishes}
use Rattle.tp_serve.proofs.Ahead.{is_ahead, shut_ahead}
use Rattle.tp_tx.specs.Progress.{IsRunning, AnswersBody, KeepsUpFace, turns_at, turns_of, first_place, GoesFirst, HasRun}
use Rattle.tp_tx.specs.Running.{IsCutShort, IsWhole, EndsRunning}

-- ---- one frame

joined : (a b : List ℕ) (t : TxTranscript) → after_bytes a (after_bytes b t) ≡ after_bytes (a ++ b) t
joined a b t = ap (λ (w : List ℕ). let x : TxTranscript = record { written = w; ending = t.ending; events = t.events; log = t.log } in x) (sym (append_assoc a b t.written))

abbrev by_turn : Opening → List Given → ℕ → ℕ → List ℕ → Stream → Turn → TxTranscript
by_turn o gs n d body s t = elim t as (λ _. TxTranscript) [
  | Stops e ↦ ends_at o gs e
  | Goes a ↦ after_bytes (answer_bytes o gs a) (turns_from o (events_with gs a) (suc (suc n)) (d + declared_in body) s.bodies s.rest)
]

-- it is answered, and the stream goes on
one_goes : (o : Opening) (gs : List Given) (n d : ℕ) (body : List ℕ) (s : Stream) (a : Asks) → turn o gs (suc n) d body ≡ Goes a
    → turns_at o gs n d (with_body body s) ≡ after_bytes (answer_bytes o gs a) (turns_at o (events_with gs a) (suc n) (d + declared_in body) s)
one_goes o gs n d body s a is = ap (by_turn o gs n d body s) is

-- the stream ends there
one_stops : (o : Opening) (gs : List Given) (n d : ℕ) (body : List ℕ) (s : Stream) (e : Ending) → turn o gs (suc n) d body ≡ Stops e → turns_at o gs n d (with_body body s) ≡ ends_at o gs e
one_stops o gs n d body s e is = ap (by_turn o gs n d body s) is

-- ---- what was read

-- where the source tells what it had, it tells what it has
known : (o : Opening) (place : Place) (input : List ℕ) (left rest : Option (List ℕ)) (f : Stream → TxTranscript) → left ≡ Some input
    → option_map (turns_at o first_events 0 0) (frames_left first_place left) ≡ option_map f (frames_left place rest)
    → (all : List ℕ) × (bytes_left place rest ≡ Some all) × (turns_of o input ≡ f (stream all))
known o place input left rest f is read = go (bytes_left place rest) (ap (λ (l : Option (List ℕ)). option_map (turns_at o first_events 0 0) (frames_left first_place l)) (sym is) ∙ read)
  where
    go : (m : Option (List ℕ)) → Some (turns_of o input) ≡ option_map f (option_map stream m) → (all : List ℕ) × (m ≡ Some all) × (turns_of o input ≡ f (stream all))
    go None e = absurd (cc (e))
    go (Some all) e = (all, refl, cc (e))

-- ---- what waits

-- The first of the events are on the disk, and the answers to the frames up to them were written; other answers wait, or there was no
-- memory for the last.
pub record Waits {K : Type 0} (standing : K → Standing) (o : Opening) (begun : Option Story) (faults : ℕ) (left written : Option (List ℕ)) (events all : List Given) (bytes waiting : List ℕ) (output : Option (List ℕ)) (f : Face K) : Type 0 where
  pub is : IsAhead standing o events all begun faults f.site
  pub first : (input : List ℕ) → left ≡ Some input → GoesFirst o input events bytes
  pub more : List ℕ
  pub goes : (input : List ℕ) → left ≡ Some input → GoesFirst o input all ((bytes ++ waiting) ++ more)
  pub wrote : (before : List ℕ) → written ≡ Some before → output ≡ Some (before ++ bytes)

module _ {K : Type 0} (standing : K → Standing) (o : Opening) (begun : Option Story) (faults : ℕ) (left written : Option (List ℕ)) where
  abbrev Ends : Option (List ℕ) → Option (List ℕ) → Result (Unit {0}) Stop → Face K → Type 0
  Ends unread output r f = EndsRunning standing o begun faults left unread written output r f

  -- ---- what was answered is settled

  abbrev Pending : List Given → List Given → List ℕ → List ℕ → Option (List ℕ) → Face K → Type 0
  Pending events all bytes waiting output f = Waits standing o begun faults left written events all bytes waiting output f

  -- a prefix of what waits is written
  wrote_all : (bytes waiting more : List ℕ) (output now : Option (List ℕ)) → ((before : List ℕ) → written ≡ Some before → output ≡ Some (before ++ bytes)) → ((before : List ℕ) → output ≡ Some before → WritesPrefix before waiting now)
      → (before : List ℕ) → written ≡ Some before → WritesPrefix before ((bytes ++ waiting) ++ more) now
  wrote_all bytes waiting more output now wrote part before is =
      let p = part (before ++ bytes) (wrote before is) in (
        bytes ++ p.0,
        (
          p.1.0 ++ more,
          ap (λ (l : List ℕ). (bytes ++ l) ++ more) p.1.1 ∙ ap (λ (l : List ℕ). l ++ more) (sym (append_assoc bytes p.0 p.1.0)) ∙ append_assoc (bytes ++ p.0) p.1.0 more,
        ),
        p.2 ∙ ap (λ (l : List ℕ). Some l) (append_assoc before bytes p.0),
      )

  module _ (events all : List Given) (bytes waiting : List ℕ) (output : Option (List ℕ)) (f : Face K) (waits : Pending events all bytes waiting output f) (unread now : Option (List ℕ)) (g : Face K) where
    unsettled : (stop : Stop) → SettlesAll standing o events all begun faults (Err stop) g.site waiting output now → Ends unread now (Err stop) g
    unsettled (Stop.BadInput n why) x = absurd x
    unsettled (Stop.Limit what n) x = absurd x
    unsettled (Stop.Foreign n) x = absurd x
    unsettled (Stop.ReadFault n) x = absurd x
    unsettled (Stop.WriteFault n) x = record {
      events = all;
      next = [];
      bytes = (bytes ++ waiting) ++ waits.more;
      site = (x.0, refl);
      read = waits.goes;
      wrote = wrote_all bytes waiting waits.more output now waits.wrote x.1;
    }
    unsettled (Stop.DiskFault n) x = record {
      events = events;
      next = waits.is.ahead;
      bytes = bytes;
      site = subst (λ (l : List Given). HasFailed standing o events l begun faults n g.site) waits.is.are x.0;
      read = λ input is. record {
        first = waits.first input is;
        more = waiting ++ waits.more;
        later = subst (λ (b : List ℕ). GoesFirst o input (events ++ waits.is.ahead) b) (append_assoc bytes waiting waits.more) (subst (λ (l : List Given). GoesFirst o input l ((bytes ++ waiting) ++ waits.more)) waits.is.are (waits.goes input is));
      };
      wrote = λ before is. x.1 ∙ waits.wrote before is;
    }
    unsettled Stop.NoMemory x = absurd x

    -- it ends as it was to end, or all was not settled
    finishes : (end result : Result (Unit {0}) Stop) (before after : ℕ) → Finishes standing f.site g.site end result waiting output now before after
        → (SettlesAll standing o events all begun faults (Ok tt) g.site waiting output now → (standing f.site.keeper).shut ≡ None → Ends unread now end g) → Ends unread now result g
    finishes end result before after x ends = subst (λ (r : Result (Unit {0}) Stop). Ends unread now r g) (sym x.is) (go x.settled (x.settles.all o events all begun faults waits.is) x.settles.was_open)
      where
        go : (r : Result (Unit {0}) Stop) → SettlesAll standing o events all begun faults r g.site waiting output now → OnOk r ((standing f.site.keeper).shut ≡ None) → Ends unread now (finished r end) g
        go (Ok u) settled open_now = ends settled open_now
        go (Err stop) settled open_now = unsettled stop settled

  module _ (place : Place) (declares : ℕ) (rest output : Option (List ℕ)) (waiting : List ℕ) (f : Face K) (run : HasRun standing o begun faults place declares left rest written output waiting f) where
    abbrev rest_of_it : Stream → TxTranscript
    rest_of_it s = after_bytes (run.bytes ++ waiting) (turns_at o run.all place.at declares s)

    -- it goes on, as far as is known
    goes_on : (input : List ℕ) → left ≡ Some input → GoesFirst o input run.all (run.bytes ++ waiting)
    goes_on input is = let x = known o place input left rest rest_of_it is run.read in record { number = place.at; declares = declares; more = stream x.0; are = x.2 }

    goes_all : (input : List ℕ) → left ≡ Some input → GoesFirst o input run.all ((run.bytes ++ waiting) ++ [])
    goes_all input is = subst (GoesFirst o input run.all) (sym (append-nil (run.bytes ++ waiting))) (goes_on input is)

    pub ahead_of : IsAhead standing o run.events run.all begun faults f.site
    ahead_of = is_ahead standing o run.events run.all begun faults f.site run.ahead run.are run.running.serving run.rests

    all_wait : Pending run.events run.all run.bytes waiting output f
    all_wait = record { is = ahead_of; first = run.first; more = []; goes = goes_all; wrote = run.wrote }

    wrote_now : (now : Option (List ℕ)) → ((before : List ℕ) → output ≡ Some before → now ≡ Some (before ++ waiting)) → (before : List ℕ) → written ≡ Some before → now ≡ Some (before ++ (run.bytes ++ waiting))
    wrote_now now whole before is = whole (before ++ run.bytes) (run.wrote before is) ∙ ap (λ (l : List ℕ). Some l) (append_assoc before run.bytes waiting)

    -- ---- before the next frame

    settled_so : (now : Option (List ℕ)) (g : Face K) → SettlesAll standing o run.events run.all begun faults (Ok tt) g.site waiting output now → IsRunning standing o run.all None faults g → HasRun standing o begun faults place declares left rest written now [] g
    settled_so now g x running = record {
      events = run.all;
      all = run.all;
      ahead = [];
      are = sym (append-nil run.all);
      bytes = run.bytes ++ waiting;
      running = running;
      rests = x.0.rests;
      first = goes_on;
      read = subst (λ (b : List ℕ). option_map (turns_at o first_events 0 0) (frames_left first_place left) ≡ option_map (λ s. after_bytes b (turns_at o run.all place.at declares s)) (frames_left place rest)) (sym (append-nil (run.bytes ++ waiting))) run.read;
      wrote = wrote_now now x.1;
    }

    module _ (result : Result (Unit {0}) Stop) (waiting_new : List ℕ) (now : Option (List ℕ)) (g : Face K) (before after : ℕ) (keeps : KeepsUpFace standing f g result waiting waiting_new output now before after) where
      pub kept_up : result ≡ Ok tt → HasRun standing o begun faults place declares left rest written now waiting_new g
      kept_up ok = elim keeps [
        | inl x ↦
            subst (λ (w : List ℕ). HasRun standing o begun faults place declares left rest written now w g) (sym x.2)
            (subst (λ (u : Option (List ℕ)). HasRun standing o begun faults place declares left rest written u waiting g) (sym x.3)
            (subst (HasRun standing o begun faults place declares left rest written output waiting) (sym x.1) run))
        | inr x ↦
            let y = subst (λ (r : Result (Unit {0}) Stop). SettlesSite standing f.site g.site r waiting waiting_new output now before after) ok x.settles in
            subst (λ (w : List ℕ). HasRun standing o begun faults place declares left rest written now w g) (sym y.empty)
            (settled_so now g (y.all o run.events run.all begun faults ahead_of) (record { face = x.at o run.all [] run.running.face; node = x.node ∙ run.running.node; serving = y.serves o run.all faults run.running.serving }))
      ]

      pub not_kept_up : (stop : Stop) (unread : Option (List ℕ)) → result ≡ Err stop → Ends unread now (Err stop) g
      not_kept_up stop unread failed = elim keeps [
        | inl x ↦ absurd (let clash : Err stop ≡ Ok tt = sym failed ∙ x.0 in cc)
        | inr x ↦
            let y = subst (λ (r : Result (Unit {0}) Stop). SettlesSite standing f.site g.site r waiting waiting_new output now before after) failed x.settles in
            unsettled run.events run.all run.bytes waiting output f all_wait unread now g stop (y.all o run.events run.all begun faults ahead_of)
      ]

    -- ---- a body was taken

    module _ (body : List ℕ) (next : Place) (now : Option (List ℕ)) (taken : HandsOut place rest body next now) where
      read_on : option_map (turns_at o first_events 0 0) (frames_left first_place left) ≡ option_map (λ s. rest_of_it (with_body body s)) (frames_left next now)
      read_on = run.read ∙ ap (option_map rest_of_it) taken.frames ∙ twice (frames_left next now)
        where
          twice : (m : Option Stream) → option_map rest_of_it (option_map (with_body body) m) ≡ option_map (λ s. rest_of_it (with_body body s)) m
          twice None = refl
          twice (Some s) = refl

      -- it was answered
      more_read : (a : Asks) (count : ℕ) → turn o run.all next.at declares body ≡ Goes a → count ≡ declares + declared_in body
          → option_map (turns_at o first_events 0 0) (frames_left first_place left) ≡ option_map (λ s. after_bytes ((run.bytes ++ waiting) ++ answer_bytes o run.all a) (turns_at o (events_with run.all a) next.at count s)) (frames_left next now)
      more_read a count goes counts = read_on ∙ each (frames_left next now)
        where
          goes_so : turn o run.all (suc place.at) declares body ≡ Goes a
          goes_so = ap (λ (n : ℕ). turn o run.all n declares body) (sym taken.at) ∙ goes

          one : (s : Stream) → rest_of_it (with_body body s) ≡ after_bytes ((run.bytes ++ waiting) ++ answer_bytes o run.all a) (turns_at o (events_with run.all a) next.at count s)
          one s =
              ap (after_bytes (run.bytes ++ waiting)) (one_goes o run.all place.at declares body s a goes_so)
              ∙ joined (run.bytes ++ waiting) (answer_bytes o run.all a) (turns_at o (events_with run.all a) (suc place.at) (declares + declared_in body) s)
              ∙ ap (λ (n : ℕ). after_bytes ((run.bytes ++ waiting) ++ answer_bytes o run.all a) (turns_at o (events_with run.all a) n (declares + declared_in body) s)) (sym taken.at)
              ∙ ap (λ (d : ℕ). after_bytes ((run.bytes ++ waiting) ++ answer_bytes o run.all a) (turns_at o (events_with run.all a) next.at d s)) (sym counts)

          each : (m : Option Stream) → option_map (λ s. rest_of_it (with_body body s)) m ≡ option_map (λ s. after_bytes ((run.bytes ++ waiting) ++ answer_bytes o run.all a) (turns_at o (events_with run.all a) next.at count s)) m
          each None = refl
          each (Some s) = ap (λ (t : TxTranscript). Some t) (one s)

      -- the events that are noted then
      are_with : (a : Asks) → events_with run.all a ≡ run.events ++ events_with run.ahead a
      are_with Not_taken = run.are
      are_with Asks_nothing = run.are
      are_with (An_event h) = ap (λ (l : List Given). l ++ h ∷ []) run.are ∙ append_assoc run.events run.ahead (h ∷ [])

      module _ (waiting_new : List ℕ) (g : Face K) (lasting : (standing g.site.keeper).lasting ≡ (standing f.site.keeper).lasting) where
        rests_so : RestsOn o run.events begun (standing g.site.keeper).lasting
        rests_so = subst (RestsOn o run.events begun) (sym lasting) run.rests

        pub run_on : (a : Asks) (count : ℕ) → turn o run.all next.at declares body ≡ Goes a → IsRunning standing o (events_with run.all a) None faults g → count ≡ declares + declared_in body → waiting_new ≡ waiting ++ answer_bytes o run.all a
            → HasRun standing o begun faults next count left now written output waiting_new g
        run_on a count goes running counts waits = record {
          events = run.events;
          all = events_with run.all a;
          ahead = events_with run.ahead a;
          are = are_with a;
          bytes = run.bytes;
          running = running;
          rests = rests_so;
          first = run.first;
          read =
              subst (λ (b : List ℕ). option_map (turns_at o first_events 0 0) (frames_left first_place left) ≡ option_map (λ s. after_bytes b (turns_at o (events_with run.all a) next.at count s)) (frames_left next now))
              (append_assoc run.bytes waiting (answer_bytes o run.all a) ∙ ap (λ (l : List ℕ). run.bytes ++ l) (sym waits)) (more_read a count goes counts);
          wrote = run.wrote;
        }

        -- nothing of it is so
        without_it : waiting_new ≡ waiting → IsAhead standing o run.events run.all begun faults g.site → Pending run.events run.all run.bytes waiting_new output g
        without_it same is = record {
          is = is;
          first = run.first;
          more = [];
          goes = λ input i. subst (λ (l : List ℕ). GoesFirst o input run.all ((run.bytes ++ l) ++ [])) (sym same) (goes_all input i);
          wrote = run.wrote;
        }

        wrote_same : (later : Option (List ℕ)) → waiting_new ≡ waiting → ((before : List ℕ) → output ≡ Some before → later ≡ Some (before ++ waiting_new)) → (before : List ℕ) → written ≡ Some before → later ≡ Some (before ++ (run.bytes ++ waiting))
        wrote_same later same whole = wrote_now later (λ before is. whole before is ∙ ap (λ (l : List ℕ). Some (before ++ l)) same)

        -- the stream ends at it
        whole : (e : Ending) → turn o run.all next.at declares body ≡ Stops e → (input : List ℕ) → left ≡ Some input → IsWhole o input run.all (run.bytes ++ waiting) e
        whole e stops input is =
            let x = known o next input left now (λ s. rest_of_it (with_body body s)) is read_on in
            x.2 ∙ ap (after_bytes (run.bytes ++ waiting)) (one_stops o run.all place.at declares body (stream x.0) e (ap (λ (n : ℕ). turn o run.all n declares body) (sym taken.at) ∙ stops))

        goes_with : (a : Asks) → turn o run.all next.at declares body ≡ Goes a → (input : List ℕ) → left ≡ Some input → GoesFirst o input (events_with run.all a) ((run.bytes ++ waiting) ++ answer_bytes o run.all a)
        goes_with a goes input is =
            let k = known o next input left now (λ s. after_bytes ((run.bytes ++ waiting) ++ answer_bytes o run.all a) (turns_at o (events_with run.all a) next.at (declares + declared_in body) s)) is (more_read a (declares + declared_in body) goes refl) in
            record { number = next.at; declares = declares + declared_in body; more = stream k.0; are = k.2 }

        module _ (later : Option (List ℕ)) (u : Face K) (result : Result (Unit {0}) Stop) (count before after : ℕ) where
          abbrev Fin : Stop → Type 0
          Fin stop = Finishes standing g.site u.site (Err stop) result waiting_new output later before after

          ends_at_it : (stop : Stop) → waiting_new ≡ waiting → IsRunning standing o run.all None faults g → Fin stop
              → (SettlesAll standing o run.events run.all begun faults (Ok tt) u.site waiting_new output later → Ends now later (Err stop) u) → Ends now later result u
          ends_at_it stop same running fin ends =
              finishes run.events run.all run.bytes waiting_new output g (without_it same (is_ahead standing o run.events run.all begun faults g.site run.ahead run.are running.serving rests_so)) now later u (Err stop) result before after fin
              (λ settled open_now. ends settled)

          pub stopped : (stop : Stop) → AnswersBody standing o run.all None faults next.at declares body (Err stop) g count waiting waiting_new → Fin stop → Ends now later result u
          stopped (Stop.BadInput n why) x fin = ends_at_it (Stop.BadInput n why) x.2 x.0 fin (λ settled. record {
            events = run.all;
            next = [];
            bytes = run.bytes ++ waiting;
            site = (settled.0, refl);
            read = whole (Bad_input n why) x.1;
            wrote = wrote_same later x.2 settled.1;
          })
          stopped (Stop.Limit what n) x fin = ends_at_it (Stop.Limit what n) x.2 x.0 fin (λ settled. record {
            events = run.all;
            next = [];
            bytes = run.bytes ++ waiting;
            site = (settled.0, refl);
            read = whole (At_limit what n) x.1;
            wrote = wrote_same later x.2 settled.1;
          })
          stopped (Stop.Foreign n) x fin = absurd x
          stopped (Stop.ReadFault n) x fin = absurd x
          stopped (Stop.WriteFault n) x fin = absurd x
          stopped (Stop.DiskFault n) x fin =
              finishes run.events run.all run.bytes waiting_new output g (without_it x.1 (shut_ahead standing o run.events run.all begun faults g.site f.site n run.ahead run.are run.running.serving rests_so x.0)) now later u (Err (Stop.DiskFault n)) result before after fin
              (λ settled open_now. absurd (let clash : None ≡ Some n = sym open_now ∙ x.0.shut in cc))
          stopped Stop.NoMemory (inl running, same) fin = ends_at_it Stop.NoMemory same running fin (λ settled. record {
            events = run.all;
            next = [];
            bytes = run.bytes ++ waiting;
            site = (settled.0, refl);
            read = goes_on;
            wrote = λ b is. (run.bytes ++ waiting, ([], sym (append-nil (run.bytes ++ waiting))), wrote_same later same settled.1 b is);
          })
          stopped Stop.NoMemory (inr x, same) fin =
              let more = answer_bytes o run.all x.0 in
              let waits : Pending run.events (events_with run.all x.0) run.bytes waiting_new output g = record {
                is = is_ahead standing o run.events (events_with run.all x.0) begun faults g.site (events_with run.ahead x.0) (are_with x.0) x.2.serving rests_so;
                first = run.first;
                more = more;
                goes = λ input i. subst (λ (l : List ℕ). GoesFirst o input (events_with run.all x.0) ((run.bytes ++ l) ++ more)) (sym same) (goes_with x.0 x.1 input i);
                wrote = run.wrote;
              } in
              finishes run.events (events_with run.all x.0) run.bytes waiting_new output g waits now later u (Err Stop.NoMemory) result before after fin
              (λ settled open_now. record {
                events = events_with run.all x.0;
                next = [];
                bytes = (run.bytes ++ waiting_new) ++ more;
                site = (settled.0, refl);
                read = waits.goes;
                wrote = wrote_all run.bytes waiting_new more output later run.wrote (λ b is. (waiting_new, ([], sym (append-nil waiting_new)), settled.1 b is));
              })

    -- ---- no body was taken

    -- the source is at its end
    at_end : (n : ℕ) (s : Stream) → Ok None ≡ first_body n s → turns_at o run.all place.at declares s ≡ ends_at o run.all Done
    at_end n s e = go s.bodies s.rest e
      where
        last : (r : Rest) → Ok None ≡ ended {A = List ℕ} (rest_ending n r) → rest_ending (suc place.at) r ≡ Done
        last Nothing h = refl
        last Short h = absurd (cc (h))
        last Bad_length h = absurd (cc (h))

        go : (bs : List (List ℕ)) (r : Rest) → Ok None ≡ first_body n (record { bodies = bs; rest = r }) → turns_from o run.all (suc place.at) declares bs r ≡ ends_at o run.all Done
        go [] r h = ap (ends_at o run.all) (last r h)
        go (b ∷ bs) r h = absurd (cc (h))

    at_bad : (n at : ℕ) (why : Why) (s : Stream) → n ≡ suc place.at → Err (Stop.BadInput at why) ≡ first_body n s → turns_at o run.all place.at declares s ≡ ends_at o run.all (Bad_input at why)
    at_bad n at why s number e = go s.bodies s.rest (e ∙ ap (λ (m : ℕ). first_body m s) number)
      where
        last : (r : Rest) → Err (Stop.BadInput at why) ≡ ended {A = List ℕ} (rest_ending (suc place.at) r) → rest_ending (suc place.at) r ≡ Bad_input at why
        last Nothing h = absurd (cc (h))
        last Short h = same (suc place.at) Why.Short h
          where
            same : (m : ℕ) (w : Why) → ◌≡◌ {A = Result (Option (List ℕ)) Stop} (Err (Stop.BadInput at why)) (Err (Stop.BadInput m w)) → Bad_input m w ≡ Bad_input at why
            same m w k = let i : Stop.BadInput at why ≡ Stop.BadInput m w = cc (k) in cc (i)
        last Bad_length h = same (suc place.at) Why.Length h
          where
            same : (m : ℕ) (w : Why) → ◌≡◌ {A = Result (Option (List ℕ)) Stop} (Err (Stop.BadInput at why)) (Err (Stop.BadInput m w)) → Bad_input m w ≡ Bad_input at why
            same m w k = let i : Stop.BadInput at why ≡ Stop.BadInput m w = cc (k) in cc (i)

        go : (bs : List (List ℕ)) (r : Rest) → Err (Stop.BadInput at why) ≡ first_body (suc place.at) (record { bodies = bs; rest = r }) → turns_from o run.all (suc place.at) declares bs r ≡ ends_at o run.all (Bad_input at why)
        go [] r h = ap (ends_at o run.all) (last r h)
        go (b ∷ bs) r h = absurd (cc (h))

    fresh : place.stop ≡ None → (all : List ℕ) → answer place all ≡ first_body (suc place.at) (stream all)
    fresh none all = ap (λ (m : Option Stop). elim m as (λ _. Result (Option (List ℕ)) Stop) [ Some stop ↦ Err stop | None ↦ first_body (suc place.at) (stream all) ]) none

    module _ (unread now : Option (List ℕ)) (g : Face K) (result : Result (Unit {0}) Stop) (before after : ℕ) where
      abbrev Finished : Result (Unit {0}) Stop → Type 0
      Finished end = Finishes standing f.site g.site end result waiting output now before after

      ends_so : (end : Result (Unit {0}) Stop) → Finished end → (SettlesAll standing o run.events run.all begun faults (Ok tt) g.site waiting output now → Ends unread now end g) → Ends unread now result g
      ends_so end fin ends = finishes run.events run.all run.bytes waiting output f all_wait unread now g end result before after fin (λ settled open_now. ends settled)

      -- the loop is through, or there is no memory for the frame
      pub through : Finished (Err Stop.NoMemory) → Ends unread now result g
      through fin = ends_so (Err Stop.NoMemory) fin (λ settled. record {
        events = run.all;
        next = [];
        bytes = run.bytes ++ waiting;
        site = (settled.0, refl);
        read = goes_on;
        wrote = λ b is. (run.bytes ++ waiting, ([], sym (append-nil (run.bytes ++ waiting))), wrote_now now settled.1 b is);
      })

      pub ended_so : place.stop ≡ None → IsFor (answer place) (bytes_left place rest) (Ok None) → Finished (Ok tt) → Ends unread now result g
      ended_so none is_for fin = ends_so (Ok tt) fin (λ settled. record {
        events = run.all;
        next = [];
        bytes = run.bytes ++ waiting;
        site = (settled.0, refl);
        read = λ input is. (let k = known o place input left rest rest_of_it is run.read in k.2 ∙ ap (after_bytes (run.bytes ++ waiting)) (at_end (suc place.at) (stream k.0) (is_for k.0 k.1 ∙ fresh none k.0)));
        wrote = wrote_now now settled.1;
      })

      pub cut_so : (next : Place) (stop : Stop) (read now_read : ℕ) → place.stop ≡ None → IsFor (answer place) (bytes_left place rest) (Err stop) → IsFrameStop (suc place.at) read now_read stop
          → ((n : ℕ) → ◌≡◌ {A = Result (Option (List ℕ)) Stop} (Err stop) (Err (Stop.ReadFault n)) → IsCutOff place rest next unread) → Finished (Err stop) → Ends unread now result g
      cut_so next (Stop.BadInput at why) read now_read none is_for of cut fin = ends_so (Err (Stop.BadInput at why)) fin (λ settled. record {
        events = run.all;
        next = [];
        bytes = run.bytes ++ waiting;
        site = (settled.0, refl);
        read = λ input is. (let k = known o place input left rest rest_of_it is run.read in k.2 ∙ ap (after_bytes (run.bytes ++ waiting)) (at_bad (suc place.at) at why (stream k.0) refl (is_for k.0 k.1 ∙ fresh none k.0)));
        wrote = wrote_now now settled.1;
      })
      cut_so next (Stop.Limit what at) read now_read none is_for of cut fin = absurd of
      cut_so next (Stop.Foreign at) read now_read none is_for of cut fin = absurd of
      cut_so next (Stop.ReadFault n) read now_read none is_for of cut fin = ends_so (Err (Stop.ReadFault n)) fin (λ settled. record {
        events = run.all;
        next = [];
        bytes = run.bytes ++ waiting;
        site = (settled.0, refl);
        read = λ input is. short input is (cut n refl) (known o place input left rest rest_of_it is run.read);
        wrote = wrote_now now settled.1;
      })
        where
          short : (input : List ℕ) → left ≡ Some input → IsCutOff place rest next unread → (all : List ℕ) × (bytes_left place rest ≡ Some all) × (turns_of o input ≡ rest_of_it (stream all)) → IsCutShort o input run.all (run.bytes ++ waiting) unread
          short input is off k = by unread refl (off.bytes ∙ k.1)
            where
              by : (m : Option (List ℕ)) → unread ≡ m → together next.held m ≡ Some k.0 → IsCutShort o input run.all (run.bytes ++ waiting) unread
              by None i e = absurd (cc (e))
              by (Some more) i e = record {
                number = place.at;
                declares = declares;
                held = next.held;
                rest = more;
                unread_is = i;
                part = off.part;
                are = k.2 ∙ ap (λ (l : List ℕ). rest_of_it (stream l)) (sym (some_is (next.held ++ more) k.0 e));
              }
                where
                  some_is : (x y : List ℕ) → Some x ≡ Some y → x ≡ y
                  some_is x y h = cc (h)
      cut_so next (Stop.WriteFault n) read now_read none is_for of cut fin = absurd of
      cut_so next (Stop.DiskFault n) read now_read none is_for of cut fin = absurd of
      cut_so next Stop.NoMemory read now_read none is_for of cut fin = through fin

-- at first nothing was read
pub first_run : {K : Type 0} (standing : K → Standing) (o : Opening) (begun : Option Story) (faults : ℕ) (left written : Option (List ℕ)) (f : Face K) → IsRunning standing o first_events None faults f → RestsOn o first_events begun (standing f.site.keeper).lasting
    → HasRun standing o begun faults first_place 0 left left written written [] f
first_run standing o begun faults left written f running rests = record {
  events = first_events;
  all = first_events;
  ahead = [];
  are = refl;
  bytes = [];
  running = running;
  rests = rests;
  first = λ input is. record { number = 0; declares = 0; more = stream input; are = refl };
  read = refl;
  wrote = λ before is. is ∙ ap (λ (l : List ℕ). Some l) (sym (append-nil before));
}
