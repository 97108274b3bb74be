-- What a drive has read of its input, and how that ends.
use Rattle.std.proofs.Common.{◌≡◌, ◌≤◌, ℕ, suc, Option, Some, None, Ok, Err, List, [], ◌∷◌, ◌++◌, refl, ap, ◌∙◌, arith}
use Rattle.std.specs.Option.{option_map}
use Rattle.tp_records.specs.declared.body.Event.{Event as Given}
use Rattle.tp_model.specs.NodeTranscript.{Input}
use Rattle.tp_streams.specs.declared.stop.Stop.{Stop}
use Rattle.tp_streams.specs.Stops.{IsEventStop, IsFaultOf}
use Rattle.tp_streams.specs.Taken.{bytes_left, IsFor}
use Rattle.tp_streams.specs.Events.{EventPlace, events_left, answer_event, EndsEvents, HandsEvent}
use Rattle.tp_serve.specs.Progress.{with_events}
use Rattle.tp_serve.proofs.Inputs.{with_none, with_one, begins, Tells, tells_from, ends_done, ends_bad, ends_limit}
use Rattle.tp_drive_tool.specs.Reading.{input_of, HasRead, IsInputStop, IsReadCause}

-- these events were read, and what is still to come of the source comes after them
pub record HasTaken (first : Option (List ℕ)) (place : EventPlace) (left : Option (List ℕ)) (events : List Given) : Type 0 where
  pub unstopped : place.place.stop ≡ None
  pub read : events_left (begins 100000) first ≡ option_map (with_events events) (events_left place left)

pub none_taken : (first : Option (List ℕ)) → HasTaken first (begins 100000) first []
none_taken first = record { unstopped = refl; read = with_none (events_left (begins 100000) first) }

pub one_more : (first left rest : Option (List ℕ)) (place new : EventPlace) (events : List Given) (g : Given) → HasTaken first place left events → HandsEvent place left g new rest → HasTaken first new rest (events ++ g ∷ [])
one_more first left rest place new events g taken hands = record {
  unstopped = hands.stop;
  read = taken.read ∙ ap (option_map (with_events events)) hands.events ∙ with_one events g (events_left new rest);
}

module _ (first left : Option (List ℕ)) (place : EventPlace) (events : List Given) (taken : HasTaken first place left events) where
  told : (bytes : List ℕ) → first ≡ Some bytes → Tells (input_of bytes) events place left
  told bytes is = tells_from 100000 bytes events place first left is taken.read

  pub all_taken : (new : EventPlace) (unread : Option (List ℕ)) → EndsEvents place left new unread → IsFor (answer_event place) (bytes_left place.place left) (Ok None)
      → (bytes : List ℕ) → first ≡ Some bytes → HasRead bytes events unread
  all_taken new unread ends for bytes is = ends_done (input_of bytes) events place left taken.unstopped (told bytes is) new unread ends for

  pub stopped : (unread : Option (List ℕ)) (stop : Stop) (number old now : ℕ) → IsFor (answer_event place) (bytes_left place.place left) (Err stop) → IsEventStop number old now stop
      → (bytes : List ℕ) → first ≡ Some bytes → IsInputStop bytes unread stop
  stopped unread (Stop.BadInput at why) number old now for cause bytes is =
      ap (λ (i : Input). i.ending) (ends_bad (input_of bytes) events place left taken.unstopped (told bytes is) at why for)
  stopped unread (Stop.Limit what at) number old now for cause bytes is =
      ap (λ (i : Input). i.ending) (ends_limit (input_of bytes) events place left taken.unstopped (told bytes is) what at for)
  stopped unread (Stop.Foreign at) number old now for cause bytes is = absurd cause
  stopped unread (Stop.ReadFault faults) number old now for cause bytes is = tt
  stopped unread (Stop.WriteFault faults) number old now for cause bytes is = absurd cause
  stopped unread (Stop.DiskFault faults) number old now for cause bytes is = absurd cause
  stopped unread Stop.NoMemory number old now for cause bytes is = tt

risen_since : (first old new faults : ℕ) → first ≤ old → IsFaultOf faults old new → IsFaultOf faults first new
risen_since first old new faults le f = record { risen = omega (arith, le, f.risen); told = f.told }

-- by the counts since the reading began
pub read_cause : (number first old new : ℕ) (stop : Stop) → first ≤ old → IsEventStop (suc number) old new stop → IsReadCause first new stop
read_cause number first old new (Stop.BadInput at why) le x = (omega (arith, x.0), x.1)
read_cause number first old new (Stop.Limit what at) le x = omega (arith, x.0)
read_cause number first old new (Stop.Foreign at) le x = absurd x
read_cause number first old new (Stop.ReadFault faults) le x = risen_since first old new faults le x
read_cause number first old new (Stop.WriteFault faults) le x = absurd x
read_cause number first old new (Stop.DiskFault faults) le x = absurd x
read_cause number first old new Stop.NoMemory le x = tt
