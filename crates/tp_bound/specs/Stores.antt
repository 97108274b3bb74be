-- What the bodies of a log stand for: a content, and the writes that are bound and not yet decided; or the place of the
-- first body that breaks the rules. A Bind stands only where no other is undecided, with room for what decides it; a Keep
-- or a Drop stands only after an undecided Bind of its transaction.
-- How bodies stand in the bytes of a log, and who asks for them, is no matter of this file.
use Rattle.std.specs.Prelude.{ℕ, ◌≡◌, ◌+◌, nat_le, Bool, true, false, Option, Some, None, List, [], ◌∷◌, length}
use Rattle.tp_names.specs.declared.identifiers.Aaid.{Aaid}
use Rattle.tp_names.specs.Same.{is_aaid}
use Rattle.tp_journal.specs.Log.{most_bytes, StandsFor}
use Rattle.tp_bound.specs.declared.write.Write.{Write}
use Rattle.tp_bound.specs.declared.body.Body.{Body}
use Rattle.tp_bound.specs.declared.store.Pending.{Pending}
use Rattle.tp_bound.specs.declared.store.Store.{Store}
use Rattle.tp_bound.specs.Bodies.{body_in}
use Rattle.tp_bound.specs.Content.{Content, made}

abbrev pub empty : Store
empty = record { content = []; undecided = None }

-- a body 256 bytes longer would have room in its place
abbrev pub has_room : ℕ → ℕ → Bool
has_room place bytes = nat_le (place + 4 + bytes + 256) most_bytes

-- ---- what stands after one more body

abbrev pub bound : Aaid → List Write → Bool → Store → Option Store
bound aaid writes room s = elim s.undecided [
  | Some p ↦ None
  | None ↦ elim room [ true ↦ Some (record { content = s.content; undecided = Some (record { aaid = aaid; writes = writes }) }) | false ↦ None ]
]

-- the undecided Bind is decided, where it is of that transaction
abbrev pub decided : Aaid → Option Pending → (List Write → Content) → Option Store
decided aaid None content = None
decided aaid (Some p) content = elim (is_aaid p.aaid aaid) [ true ↦ Some (record { content = content p.writes; undecided = None }) | false ↦ None ]

-- the place and the length are those of the body
abbrev pub with_body : ℕ → ℕ → Body → Store → Option Store
with_body place bytes (Body.Bind aaid writes) s = bound aaid writes (has_room place bytes) s
with_body place bytes (Body.Keep aaid) s = decided aaid s.undecided (made s.content)
with_body place bytes (Body.Drop aaid) s = decided aaid s.undecided (λ writes. s.content)

-- none where the bytes are no body, or one that may not stand there
abbrev pub taken : ℕ → List ℕ → Store → Option Store
taken place bytes s = elim (body_in bytes) [ None ↦ None | Some body ↦ with_body place (length bytes) body s ]

-- ---- what stands after all bodies

pub data Reading : Type 0 where
  Stands : Store → Reading
  -- the place of the first body that breaks the rules
  Breaks : ℕ → Reading

-- the place is that of the next body's gate
abbrev pub opened_from : ℕ → Store → List (List ℕ) → Reading
opened_from place s [] = Stands s
opened_from place s (bytes ∷ more) = elim (taken place bytes s) [ None ↦ Breaks place | Some t ↦ opened_from (place + 3 + length bytes) t more ]

abbrev pub opened : List (List ℕ) → Reading
opened bodies = opened_from 5 empty bodies

-- the bytes of a file stand for bodies that open to this content
abbrev pub OpensTo : Content → List ℕ → Type 0
OpensTo content file = (bodies : List (List ℕ)) × StandsFor file bodies × (s : Store) × (opened bodies ≡ Stands s) × (s.content ≡ content)
