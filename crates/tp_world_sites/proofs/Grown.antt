-- The entry that an answer brings keeps a node's history legal.
use Rattle.std.proofs.Common.{◌≡◌, sym, subst, refl, Option, Some, List, ◌∷◌}
use Rattle.tp_names.specs.declared.identifiers.Addr.{Addr}
use Rattle.tp_model.specs.Parts.{Origin, Event, Entry}
use Rattle.tp_model.specs.History.{answer}
use Rattle.tp_model.specs.Legal.{IsUnder, IsGrown, IsLegal}
use Rattle.tp_steps.proofs.every.Answers.{Accepted, accepted}

pub answered_legal : (o : Origin) (up : Option Addr) (h : List Entry) (e : Event) (y : Entry) → IsUnder up e → IsLegal o up h → (answer o h e).entry ≡ Some y → IsLegal o up (y ∷ h)
answered_legal o up h e y under l is =
    let a : Accepted o h e y = accepted o h e y is in
    record { start = l.start; grown = subst (λ (z : Entry). IsGrown o up (z ∷ h)) (sym a.is) (a.ok, refl, a.under up under, l.grown) }
