-- The answer to one more body, and what it makes of a started store.
use Rattle.std.proofs.Common.{◌≡◌, ◌≢◌, ◌⊎◌, inl, inr, ℕ, ◌+◌, true, false, Option, Some, None, List, [], ◌∷◌, ◌++◌, length, refl, sym, ap, ◌∙◌, arith}
use Rattle.tp_outside.specs.Faults.{HasRisen}
use Rattle.tp_journal.specs.declared.faults.ForceFault.TheVariants.{DiskFault, Shut}
use Rattle.tp_journal.specs.Gates.{Gated, face}
use Rattle.tp_journal.specs.Started.{Face, Appends, Stays, RefusesAppend}
use Rattle.tp_bound.specs.declared.body.Body.{Body}
use Rattle.tp_bound.specs.declared.store.Store.{Store}
use Rattle.tp_bound.specs.Bodies.{body_bytes}
use Rattle.tp_bound.specs.Gathered.{Gathered}
use Rattle.tp_bound.specs.Stores.{with_body}
use Rattle.tp_bound.specs.Bounds.{Standing}
use Rattle.tp_bound.specs.Told.{Appended, Added, NotAdded, HasFailed}

-- ---- the log

pub stands_added : (old new : Face) (body : List ℕ) (place : ℕ) → Appends old body place new → Appended old body new true
stands_added old new body place x = record {
  at_gate = refl;
  room = x.room;
  open_before = x.open_before;
  open_after = x.open_after;
  bodies = x.bodies;
  gate = x.gate;
  faults = x.faults;
}

pub fault_adds_nothing : (old new : Face) (body : List ℕ) (faults : ℕ) → RefusesAppend old body new (DiskFault faults) → Appended old body new false
fault_adds_nothing old new body faults x = (x.0, inl (x.1, x.4, (faults, x.2)))

pub shut_adds_nothing : (old new : Face) (body : List ℕ) (faults : ℕ) → RefusesAppend old body new (Shut faults) → Appended old body new false
shut_adds_nothing old new body faults x = (x.0, inr (faults, x.1, x.2))

-- a log with the same parts is the same
pub same_gated : {D : Type 0} (old new : Gated D) (before after : ℕ) → Stays (face old before) (face new after) → old.shut ≡ None → new.shut ≡ None → new.disk ≡ old.disk → new ≡ old
same_gated {D} old new before after x before_it after_it disk =
    let with_disk : D → Gated D = λ d. record { disk = d; bodies = new.bodies; gate = new.gate; shut = new.shut } in
    let with_bodies : List (List ℕ) → Gated D = λ b. record { disk = old.disk; bodies = b; gate = new.gate; shut = new.shut } in
    let with_gate : ℕ → Gated D = λ g. record { disk = old.disk; bodies = old.bodies; gate = g; shut = new.shut } in
    let with_shut : Option ℕ → Gated D = λ s. record { disk = old.disk; bodies = old.bodies; gate = old.gate; shut = s } in
    ap with_disk disk ∙ ap with_bodies x.bodies ∙ ap with_gate x.gate ∙ ap with_shut (after_it ∙ sym before_it)

-- ---- the store

-- a store's log
abbrev pub log_of : {D : Type 0} → Standing D → ℕ → Face
log_of b faults = record { bodies = b.bodies; gate = b.gate; shut = b.shut; faults = faults }

pub is_added : {D : Type 0} (old new : Standing D) (b : Body) (text : List ℕ) (current : Option Gathered) (before after : ℕ) → Appended (log_of old before) text (log_of new after) true
    → text ≡ body_bytes b → new.node ≡ old.node → new.current ≡ current → with_body old.gate (length text) b old.store ≡ Some new.store → Added b current old new
is_added old new b text current before after x is node same leads = record {
  bound_to = node;
  bodies = x.bodies ∙ ap (λ (t : List ℕ). old.bodies ++ t ∷ []) is;
  gate = let e : new.gate ≡ old.gate + 3 + length text = omega (arith, x.gate) in e ∙ ap (λ (t : List ℕ). old.gate + 3 + length t) is;
  store = ap (λ (t : List ℕ). with_body old.gate (length t) b old.store) (sym is) ∙ leads;
  current_is = same;
  open_before = x.open_before;
  open_after = x.open_after;
}

same_standing : {D : Type 0} (old new : Standing D) → new.node ≡ old.node → new.disk ≡ old.disk → new.bodies ≡ old.bodies → new.gate ≡ old.gate → new.shut ≡ old.shut
    → new.store ≡ old.store → new.current ≡ old.current → new ≡ old
same_standing {D} old new node disk bodies gate shut store current =
    let made : ℕ → D → List (List ℕ) → ℕ → Option ℕ → Store → Option Gathered → Standing D
    = λ n d b g s t c. record { node = n; disk = d; bodies = b; gate = g; shut = s; store = t; current = c } in
    ap (λ (n : ℕ). made n new.disk new.bodies new.gate new.shut new.store new.current) node
    ∙ ap (λ (d : D). made old.node d new.bodies new.gate new.shut new.store new.current) disk
    ∙ ap (λ (b : List (List ℕ)). made old.node old.disk b new.gate new.shut new.store new.current) bodies
    ∙ ap (λ (g : ℕ). made old.node old.disk old.bodies g new.shut new.store new.current) gate
    ∙ ap (λ (s : Option ℕ). made old.node old.disk old.bodies old.gate s new.store new.current) shut
    ∙ ap (λ (t : Store). made old.node old.disk old.bodies old.gate old.shut t new.current) store
    ∙ ap (λ (c : Option Gathered). made old.node old.disk old.bodies old.gate old.shut old.store c) current

pub is_not_added : {D : Type 0} (old new : Standing D) (text : List ℕ) (before after : ℕ) → Appended (log_of old before) text (log_of new after) false
    → new.node ≡ old.node → new.store ≡ old.store → new.current ≡ old.current → (old.shut ≢ None → new.disk ≡ old.disk) → NotAdded old before new after
is_not_added {D} old new text before after x node store current again = record {
  bound_to = node;
  bodies = x.0.bodies;
  gate = x.0.gate;
  store = store;
  current_is = current;
  cause = go x.1;
}
  where
    go : (((old.shut ≡ None) × HasRisen before after × ((n : ℕ) × (new.shut ≡ Some n))) ⊎ ((n : ℕ) × (old.shut ≡ Some n) × (new.shut ≡ Some n))) → HasFailed old before new after
    go (inl y) = inl y
    go (inr y) =
        let closed : old.shut ≢ None = λ none. let e : Some y.0 ≡ None = sym y.1 ∙ none in absurd cc in
        inr (y.0, y.1, same_standing old new node (again closed) x.0.bodies x.0.gate (y.2 ∙ sym y.1) store current)
