-- The events of a stream, one frame after the other.
use Rattle.std.proofs.Common.{◌≡◌, ℕ, suc, ◌+◌, ◌<◌, ◌≤◌, Bool, true, false, Option, Some, None, List, ◌∷◌, refl, ap, ◌∙◌, arith}
use Rattle.std.specs.Prelude.{nat_lt}
use Rattle.std.proofs.lemmas.Bool.Decides.{nat_tests}
use Rattle.tp_records.specs.declared.body.Event.{Event}
use Rattle.tp_records.specs.BodyReading.{event_in}
use Rattle.tp_framing.specs.Frames.{Rest}
use Rattle.tp_model.specs.declared.verdict.What.{What}
use Rattle.tp_model.specs.declared.verdict.Why.{Why}
use Rattle.tp_model.specs.Transcript.{Bad_input, At_limit}
use Rattle.tp_model.specs.NodeTranscript.{Input, declared_by, stops, with_event}
use Rattle.tp_streams.specs.Events.{events_from}

-- an event that passes the limit of nodes, or not; what comes after it is given
abbrev pub nodes_by : Bool → ℕ → Event → Input → Input
nodes_by true at g more = stops (At_limit What.Nodes at)
nodes_by false at g more = with_event g more

-- or the limit of events before
abbrev pub limits_by : Bool → Bool → ℕ → Event → Input → Input
limits_by true nodes at g more = stops (At_limit What.Events at)
limits_by false nodes at g more = nodes_by nodes at g more

-- what a body says, and what comes after it
abbrev pub events_by : ℕ → ℕ → ℕ → Option Event → (Event → Input) → Input
events_by most at declares None more = stops (Bad_input at Why.Body)
events_by most at declares (Some g) more = limits_by (nat_lt most at) (nat_lt 256 (declares + declared_by g)) at g (more g)

by_tests : (past over : Bool) (at : ℕ) (g : Event) (more : Input)
    → elim past as (λ _. Input) [ true ↦ stops (At_limit What.Events at) | false ↦ elim over as (λ _. Input) [ true ↦ stops (At_limit What.Nodes at) | false ↦ with_event g more ] ]
    ≡ limits_by past over at g more
by_tests true over at g more = refl
by_tests false true at g more = refl
by_tests false false at g more = refl

by_said : (most at declares : ℕ) (o : Option Event) (more : Event → Input)
    → elim o as (λ _. Input) [
      | None ↦ stops (Bad_input at Why.Body)
      | Some g ↦ elim (nat_lt most at) as (λ _. Input) [
        | true ↦ stops (At_limit What.Events at)
        | false ↦ elim (nat_lt 256 (declares + declared_by g)) as (λ _. Input) [ true ↦ stops (At_limit What.Nodes at) | false ↦ with_event g (more g) ]
      ]
    ]
    ≡ events_by most at declares o more
by_said most at declares None more = refl
by_said most at declares (Some g) more = by_tests (nat_lt most at) (nat_lt 256 (declares + declared_by g)) at g (more g)

pub events_step : (most at declares : ℕ) (b : List ℕ) (bs : List (List ℕ)) (rest : Rest)
    → events_from most at declares (b ∷ bs) rest ≡ events_by most at declares (event_in b) (λ g. events_from most (suc at) (declares + declared_by g) bs rest)
events_step most at declares b bs rest = by_said most at declares (event_in b) (λ g. events_from most (suc at) (declares + declared_by g) bs rest)

-- ---- the first frame, by what it says

over : (k n : ℕ) → k < n → nat_lt k n ≡ true
over k n h = grind (arith, nat_tests)

within : (k n : ℕ) → n ≤ k → nat_lt k n ≡ false
within k n h = grind (arith, nat_tests)

pub says_none : (most at declares : ℕ) (b : List ℕ) (bs : List (List ℕ)) (rest : Rest) → event_in b ≡ None → events_from most at declares (b ∷ bs) rest ≡ stops (Bad_input at Why.Body)
says_none most at declares b bs rest none =
    events_step most at declares b bs rest ∙ ap (λ (o : Option Event). events_by most at declares o (λ g. events_from most (suc at) (declares + declared_by g) bs rest)) none

says_some : (most at declares : ℕ) (b : List ℕ) (bs : List (List ℕ)) (rest : Rest) (g : Event) → event_in b ≡ Some g
    → events_from most at declares (b ∷ bs) rest
    ≡ limits_by (nat_lt most at) (nat_lt 256 (declares + declared_by g)) at g (events_from most (suc at) (declares + declared_by g) bs rest)
says_some most at declares b bs rest g says =
    events_step most at declares b bs rest ∙ ap (λ (o : Option Event). events_by most at declares o (λ g. events_from most (suc at) (declares + declared_by g) bs rest)) says

pub past_events : (most at declares : ℕ) (b : List ℕ) (bs : List (List ℕ)) (rest : Rest) (g : Event) → event_in b ≡ Some g → most < at
    → events_from most at declares (b ∷ bs) rest ≡ stops (At_limit What.Events at)
past_events most at declares b bs rest g says past =
    says_some most at declares b bs rest g says
    ∙ ap (λ (t : Bool). limits_by t (nat_lt 256 (declares + declared_by g)) at g (events_from most (suc at) (declares + declared_by g) bs rest)) (over most at past)

pub past_nodes : (most at declares : ℕ) (b : List ℕ) (bs : List (List ℕ)) (rest : Rest) (g : Event) → event_in b ≡ Some g → at ≤ most → 256 < declares + declared_by g
    → events_from most at declares (b ∷ bs) rest ≡ stops (At_limit What.Nodes at)
past_nodes most at declares b bs rest g says few past =
    says_some most at declares b bs rest g says
    ∙ ap (λ (t : Bool). limits_by t (nat_lt 256 (declares + declared_by g)) at g (events_from most (suc at) (declares + declared_by g) bs rest)) (within most at few)
    ∙ ap (λ (t : Bool). nodes_by t at g (events_from most (suc at) (declares + declared_by g) bs rest)) (over 256 (declares + declared_by g) past)
