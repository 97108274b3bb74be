-- What a store does with what its node is told, and what it answers. That a disk may fail is part of it: a body that is
-- needed is added, or it is not.
-- What a stop leaves meanwhile is no matter of this file.
use Rattle.std.specs.Prelude.{ℕ, ◌≡◌, ◌⊎◌, ◌+◌, Bool, true, false, Option, Some, None, List, [], ◌∷◌, ◌++◌, length}
use Rattle.tp_outside.specs.Faults.{HasRisen}
use Rattle.tp_outside.specs.Story.{Story}
use Rattle.tp_journal.specs.Told.{LeavesOnly}
use Rattle.tp_journal.specs.Started.{Face, Appends, Stays}
use Rattle.tp_records.specs.declared.indication.Indication.{Indication}
use Rattle.tp_records.specs.declared.request.Request.{Request}
use Rattle.tp_bound.specs.declared.body.Body.{Body}
use Rattle.tp_bound.specs.declared.store.Pending.{Pending}
use Rattle.tp_bound.specs.declared.store.Store.{Store}
use Rattle.tp_bound.specs.Bodies.{body_bytes}
use Rattle.tp_bound.specs.Gathered.{Gathered, none_yet, with_data}
use Rattle.tp_bound.specs.Content.{Content, made}
use Rattle.tp_bound.specs.Stores.{has_room, with_body, OpensTo}
use Rattle.tp_bound.specs.Bounds.{Standing}

-- ---- what an indication asks for

pub data Wish : Type 0 where
  -- the answer, and what is current then
  Answers : Option Request → Option Gathered → Wish
  -- a body is needed: the answer where it was added, the answer where it was not, and what is current where it was
  Adds : Body → Option Request → Option Request → Option Gathered → Wish

-- an undecided Bind gets its Drop
abbrev pub dropping : Option Pending → Option Request → Option Gathered → Wish
dropping None answer current = Answers answer current
dropping (Some p) answer current = Adds (Body.Drop p.aaid) answer None current

abbrev pub keeping : Option Pending → Option Gathered → Wish
keeping None current = Answers (Some Request.Done) current
keeping (Some p) current = Adds (Body.Keep p.aaid) (Some Request.Done) None current

abbrev pub binding : Gathered → Bool → Wish
binding g true = Adds (Body.Bind g.aaid g.writes) (Some Request.Commit) (Some Request.Rollback) None
binding g false = Answers (Some Request.Rollback) (Some g)

-- the gate is where the body would begin
abbrev pub preparing : ℕ → Option Gathered → Wish
preparing gate None = Answers (Some Request.Rollback) None
preparing gate (Some g) = elim g.spoilt [
  | true ↦ Answers (Some Request.Rollback) (Some g)
  | false ↦ binding g (has_room gate (length (body_bytes (Body.Bind g.aaid g.writes))))
]

abbrev pub gathering : Option Gathered → List ℕ → Option Gathered
gathering None bytes = None
gathering (Some g) bytes = Some (with_data g bytes)

abbrev pub wish : Store → Option Gathered → ℕ → Indication → Wish
wish s current gate (Indication.BeginDialogue p u) = Answers (Some (Request.Accept u)) current
wish s current gate (Indication.BegunDialogue p u) = Answers None current
wish s current gate (Indication.Rejected p) = Answers None current
wish s current gate (Indication.EndDialogue p) = Answers None current
wish s current gate (Indication.UserData p xs) = Answers None (gathering current xs)
wish s current gate (Indication.UError p) = Answers None current
wish s current gate (Indication.UAbort p) = Answers None current
wish s current gate (Indication.PAbort p) = Answers None current
wish s current gate (Indication.Grant p) = Answers None current
wish s current gate (Indication.AskControl p) = Answers None current
wish s current gate (Indication.Handshake p) = Answers (Some (Request.Respond p)) current
wish s current gate (Indication.HandshakeConfirm p) = Answers None current
wish s current gate (Indication.HandshakeGrant p) = Answers (Some (Request.Respond p)) current
wish s current gate (Indication.BeginTransaction p t) = dropping s.undecided None (Some (none_yet t))
wish s current gate (Indication.DeferEnd p) = Answers None current
wish s current gate (Indication.DeferGrant p) = Answers None current
wish s current gate Indication.Prepare = preparing gate current
wish s current gate (Indication.Ready p) = Answers None current
wish s current gate Indication.Commit = keeping s.undecided current
wish s current gate (Indication.CommitComplete r) = Answers None current
wish s current gate Indication.Rollback = dropping s.undecided (Some Request.Done) None
wish s current gate (Indication.RollbackComplete r) = Answers None current
wish s current gate (Indication.HeuristicReport p r) = Answers None current
wish s current gate (Indication.Left p) = Answers None current

-- ---- what the store is then

-- the body stands in the log, and the store is what it leads to
pub record Added {D : Type 0} (body : Body) (current : Option Gathered) (old new : Standing D) : Type 0 where
  pub bound_to : new.node ≡ old.node
  pub bodies : new.bodies ≡ old.bodies ++ body_bytes body ∷ []
  pub gate : new.gate ≡ old.gate + 3 + length (body_bytes body)
  pub store : with_body old.gate (length (body_bytes body)) body old.store ≡ Some new.store
  pub current_is : new.current ≡ current
  pub open_before : old.shut ≡ None
  pub open_after : new.shut ≡ None

-- why a body that was needed was not added: the disk failed in this call, or it had failed before
abbrev pub HasFailed : {D : Type 0} → Standing D → ℕ → Standing D → ℕ → Type 0
HasFailed old before new after = ((old.shut ≡ None) × HasRisen before after × ((n : ℕ) × (new.shut ≡ Some n))) ⊎ ((n : ℕ) × (old.shut ≡ Some n) × (new ≡ old))

pub record NotAdded {D : Type 0} (old : Standing D) (before : ℕ) (new : Standing D) (after : ℕ) : Type 0 where
  pub bound_to : new.node ≡ old.node
  pub bodies : new.bodies ≡ old.bodies
  pub gate : new.gate ≡ old.gate
  pub store : new.store ≡ old.store
  pub current_is : new.current ≡ old.current
  pub cause : HasFailed old before new after

abbrev pub with_current : {D : Type 0} → Standing D → Option Gathered → Standing D
with_current b current = record { node = b.node; disk = b.disk; bodies = b.bodies; gate = b.gate; shut = b.shut; store = b.store; current = current }

-- the answer and the new value, with the counts of the disk's faults before and after
abbrev pub Tells : {D : Type 0} → Wish → Standing D → ℕ → Option Request → Standing D → ℕ → Type 0
Tells (Answers answer current) old before told new after = (told ≡ answer) × (new ≡ with_current old current)
Tells (Adds body added not_added current) old before told new after =
    ((told ≡ added) × Added body current old new) ⊎ ((told ≡ not_added) × NotAdded old before new after)

-- ---- what a stop leaves

-- the content where the body that is needed was added
abbrev pub content_with : Content → Option Pending → Wish → Content
content_with content pending (Answers answer current) = content
content_with content None (Adds body added not_added current) = content
content_with content (Some p) (Adds (Body.Bind aaid writes) added not_added current) = content
content_with content (Some p) (Adds (Body.Keep aaid) added not_added current) = made content p.writes
content_with content (Some p) (Adds (Body.Drop aaid) added not_added current) = content

-- an image opens to the content before the call, or to the one with what it adds
abbrev pub OpensToEither : Content → Content → List ℕ → Type 0
OpensToEither before after file = OpensTo before file ⊎ OpensTo after file

-- at every moment of the call, of a log that was not shut
abbrev pub OpensThroughout : {D : Type 0} → Wish → Standing D → Option Story → Option Story → Type 0
OpensThroughout w old before after =
    old.shut ≡ None → (s : Story) → before ≡ Some s
    → LeavesOnly (OpensToEither old.store.content (content_with old.store.content old.store.undecided w)) before after

-- the answer to one more body: it stands, or the disk failed in this call or before
abbrev pub Appended : Face → List ℕ → Face → Bool → Type 0
Appended old body new true = Appends old body old.gate new
Appended old body new false = Stays old new
    × (((old.shut ≡ None) × HasRisen old.faults new.faults × ((n : ℕ) × (new.shut ≡ Some n))) ⊎ ((n : ℕ) × (old.shut ≡ Some n) × (new.shut ≡ Some n)))
