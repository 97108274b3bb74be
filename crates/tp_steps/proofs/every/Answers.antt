-- What a node answers: the entry that its history gains is of an event that it accepts.
use Rattle.std.proofs.Common.{◌≡◌, refl, ap, sym, Option, Some, None, List}
use Rattle.tp_names.specs.declared.identifiers.Addr.{Addr}
use Rattle.tp_model.specs.Refusal.{number_of}
use Rattle.tp_model.specs.Parts.{Origin, Event, Entry, Verdict, Answer}
use Rattle.tp_model.specs.Events.{verdict}
use Rattle.tp_model.specs.History.{digest, refuse, entry_of, answer}
use Rattle.tp_model.specs.Legal.{IsUnder}
use Rattle.tp_model.proofs.Verdicts.{none_if_accepted, breaks_so}
use Rattle.tp_steps.specs.Histories.{brought}

-- the event of an entry, which is the one that was asked or the loss that follows it
pub record Accepted (o : Origin) (h : List Entry) (e : Event) (y : Entry) : Type 0 where
  pub event : Event
  pub ok : refuse o h event ≡ None
  pub is : y ≡ entry_of o h event
  pub brings : brought event ≡ brought e
  pub under : (up : Option Addr) → IsUnder up e → IsUnder up event

pub accepted : (o : Origin) (h : List Entry) (e : Event) (y : Entry) → (answer o h e).entry ≡ Some y → Accepted o h e y
accepted o h e y is = go (verdict o.who (digest o h) e) refl is
  where
    go : (v : Verdict) → verdict o.who (digest o h) e ≡ v
        → (elim v as (λ _. Answer) [
          | Verdict.Accepted ↦ record { number = None; entry = Some (entry_of o h e) }
          | Verdict.Refused n ↦ record { number = Some (number_of n); entry = None }
          | Verdict.Breaks from r ↦ record { number = Some 24; entry = Some (entry_of o h (Event.Break from r)) }
        ]).entry ≡ Some y → Accepted o h e y
    go Verdict.Accepted i k = record { event = e; ok = none_if_accepted o.who (digest o h) e i; is = cc (k); brings = refl; under = λ up u. u }
    go (Verdict.Refused n) i k = absurd (cc (k))
    go (Verdict.Breaks from r) i k =
        let b = breaks_so o.who (digest o h) e from r i in
        record { event = Event.Break from r; ok = b.1; is = cc (k); brings = ap brought (sym b.0); under = λ up u. tt }
