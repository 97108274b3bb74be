-- Which answers a store may give from now on, one after the other. What its disk has is no matter of this file. A fault answer
-- may come at a body that is needed, where the disk's count of faults rose, and from then on alone.
use Rattle.std.specs.Prelude.{ℕ, ◌≡◌, ◌≢◌, ◌⊎◌, ◌+◌, Option, Some, None, List, [], ◌∷◌, length}
use Rattle.tp_outside.specs.Faults.{HasRisen}
use Rattle.tp_records.specs.Answers.{Answer}
use Rattle.tp_records.specs.declared.request.Request.{Request}
use Rattle.tp_bound.specs.declared.body.Body.{Body}
use Rattle.tp_bound.specs.declared.store.Store.{Store}
use Rattle.tp_bound.specs.Bodies.{body_bytes}
use Rattle.tp_bound.specs.Gathered.{Gathered}
use Rattle.tp_bound.specs.Stores.{with_body}
use Rattle.tp_bound.specs.Bounds.{Standing}
use Rattle.tp_bound.specs.Told.{Wish, Answers, Adds, wish}

-- what of a store tells what it says
pub record Speaker : Type 0 where
  pub node : ℕ
  pub store : Store
  pub current : Option Gathered
  pub gate : ℕ
  pub shut : Option ℕ

abbrev pub speaker : {D : Type 0} → Standing D → Speaker
speaker b = record { node = b.node; store = b.store; current = b.current; gate = b.gate; shut = b.shut }

-- the body was added
pub record Goes (body : Body) (current : Option Gathered) (old new : Speaker) : Type 0 where
  pub bound_to : new.node ≡ old.node
  pub gate : new.gate ≡ old.gate + 3 + length (body_bytes body)
  pub store : with_body old.gate (length (body_bytes body)) body old.store ≡ Some new.store
  pub current_is : new.current ≡ current
  pub open_before : old.shut ≡ None
  pub open_after : new.shut ≡ None

-- the disk has failed, in this call or before
pub record Fails (old new : Speaker) : Type 0 where
  pub bound_to : new.node ≡ old.node
  pub gate : new.gate ≡ old.gate
  pub store : new.store ≡ old.store
  pub current_is : new.current ≡ old.current
  pub shut : (n : ℕ) × (new.shut ≡ Some n)

abbrev pub gathered : Speaker → Option Gathered → Speaker
gathered s current = record { node = s.node; store = s.store; current = current; gate = s.gate; shut = s.shut }

abbrev pub Speaks : Wish → Speaker → Option Request → Speaker → Type 0
Speaks (Answers answer current) old told new = (told ≡ answer) × (new ≡ gathered old current)
Speaks (Adds body added not_added current) old told new = ((told ≡ added) × Goes body current old new) ⊎ ((told ≡ not_added) × Fails old new)

-- one answer
abbrev pub Says : Speaker → Answer → Speaker → Type 0
Says old a new =
    ((a.node ≡ old.node) × Speaks (wish old.store old.current old.gate a.indication) old a.request new)
    ⊎ ((a.node ≢ old.node) × (a.request ≡ None) × (new ≡ old))

-- a store is shut only where its disk's count rose
abbrev pub IsShutBy : {D : Type 0} → (D → ℕ) → Speaker → D → Speaker → D → Type 0
IsShutBy faults old before new after = old.shut ≡ None → (n : ℕ) → new.shut ≡ Some n → HasRisen (faults before) (faults after)

-- over a disk whose count of faults is told
abbrev pub CanSay : {D : Type 0} → (D → ℕ) → D → Speaker → List Answer → Type 0
CanSay faults disk s [] = Unit {0}
CanSay {D} faults disk s (a ∷ rest) = (t : Speaker) × (left : D) × Says s a t × IsShutBy faults s disk t left × CanSay faults left t rest
