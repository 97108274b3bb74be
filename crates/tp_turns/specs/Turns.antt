-- A value that threads take in turn, and what each of them knows of what it has put there.
use Rattle.std.specs.Prelude.{ℕ, ◌≡◌, ◌≢◌, ◌≤◌, ◌<◌, ◌+◌, ◌==◌, true, false, List, [], ◌∷◌, ◌++◌, length, drop}
use mathlib.Core.Option.{none, some}
use lib.ListN.{get_elem?}
use Rattle.atomic_table.specs.Table.{State, Me, Step}
use Rattle.tp_model.specs.Lanes.{IsInterleaving}
use Rattle.tp_turns.specs.declared.knows.Claim.{Claim}
use Rattle.tp_turns.specs.declared.knows.Knows.{Knows}

module _ {R : Type 0} where
  -- what was put under one number, in order; each item stands beside its number
  abbrev pub own_of : ℕ → List (ℕ × R) → List R
  own_of t [] = []
  own_of t (e ∷ es) = elim (e.0 == t) [ true ↦ e.1 ∷ own_of t es | false ↦ own_of t es ]

  abbrev pub items_of : List (ℕ × R) → List R
  items_of [] = []
  items_of (e ∷ es) = e.1 ∷ items_of es

  abbrev pub lists_of : List (Claim R) → List (List R)
  lists_of [] = []
  lists_of (c ∷ cs) = c.list ∷ lists_of cs

  abbrev pub Lacks : ℕ → List (Claim R) → Type 0
  Lacks t [] = Unit {0}
  Lacks t (c ∷ cs) = (c.tag ≢ t) × Lacks t cs

  -- the stage is 0 of a pass that does nothing, 1 of one that has the value, and 2 of one that has sealed it
  abbrev pub knows : ℕ → List R → List (Claim R) → Knows R
  knows stage seen claims = record { stage = stage; seen = seen; claims = claims }

  abbrev pub idle : List (Claim R) → Knows R
  idle cs = knows 0 [] cs

  abbrev pub claim : ℕ → List R → Claim R
  claim t l = record { tag = t; list = l }

  -- each claim has what was put under it, is that of the pass with this number, and no two are the same
  abbrev pub AreTold : List (ℕ × R) → (ℕ → ℕ) → ℕ → ℕ → List (Claim R) → Type 0
  AreTold log owner by passes [] = Unit {0}
  AreTold log owner by passes (c ∷ cs) = ((c.list ≡ own_of c.tag log) × (owner c.tag ≡ by) × (c.tag < passes) × Lacks c.tag cs) × AreTold log owner by passes cs

  -- where two passes become one
  abbrev pub both_of : Knows R → Knows R → Knows R
  both_of v w = knows v.stage v.seen (v.claims ++ w.claims)

  abbrev pub counted : List (List R) → ℕ
  counted [] = 0
  counted (l ∷ ls) = length l + counted ls

  -- where the lists have as many items, these are an interleaving of the lists
  abbrev pub Covers : List R → List (List R) → Type 0
  Covers items lists = counted lists ≡ length items → IsInterleaving items lists

  abbrev pub grown : List (Claim R) → List R → List (Claim R)
  grown [] more = []
  grown (c ∷ cs) more = claim c.tag (c.list ++ more) ∷ cs

module _ {S R : Type 0} (list : S → List R) where
  -- One pass at most has the value, or has sealed it. The others do nothing.
  pub record Lies (s : State S (Knows R)) (items : List R) : Type 0 where
    pub stage : ℕ
    pub by : ℕ
    pub words : s.words ≡ stage ∷ []
    pub others : (i : ℕ) (v : Knows R) → get_elem? s.views i ≡ some v → i ≢ by → v.stage ≡ 0
    pub here : (v : Knows R) → get_elem? s.views by ≡ some v → (v.stage ≡ stage) × (stage ≡ 1 → v.seen ≡ items)
    pub home : stage ≢ 1 → (x : S) × (s.homes ≡ some x ∷ []) × (list x ≡ items)
    pub away : stage ≡ 1 → s.homes ≡ none ∷ []
    pub within : stage ≢ 0 → by < length s.views

  -- the value's items are what was put, each under the claim of some pass
  pub record Kept (s : State S (Knows R)) : Type 0 where
    pub log : List (ℕ × R)
    pub owner : ℕ → ℕ
    pub told : (i : ℕ) (v : Knows R) → get_elem? s.views i ≡ some v → AreTold log owner i (length s.views) v.claims
    pub fresh : (t : ℕ) → length s.views ≤ t → own_of t log ≡ []
    pub lock : Lies s (items_of log)

  -- ---- what steps tell

  -- a pass has the value, and has seen its items
  abbrev pub Has : Me S (Knows R) → Me S (Knows R) → Type 0
  Has m n = (x : S) × (n ≡ (knows 1 (list x) m.0.claims, (0, x) ∷ []))

  abbrev pub took : Step S → Me S (Knows R) → ℕ → Me S (Knows R) → Type 0
  took st m found n = (found ≡ 0 → Has m n) × (found ≢ 0 → n ≡ m)

  -- the items that are new since the pass has seen them
  abbrev pub more_in : Knows R → S → List R
  more_in v x = drop (length v.seen) (list x)

  -- the value is back, and what is new stands under the pass's first claim
  abbrev pub gave : Step S → Me S (Knows R) → ℕ → Me S (Knows R) → Type 0
  gave st m found n = (x : S) → m.1 ≡ (0, x) ∷ [] → n ≡ (idle (grown m.0.claims (more_in m.0 x)), [])

  abbrev pub sealed : Step S → Me S (Knows R) → ℕ → Me S (Knows R) → Type 0
  sealed st m found n = n ≡ (knows 2 [] m.0.claims, [])

  abbrev pub entered : Step S → Me S (Knows R) → ℕ → Me S (Knows R) → Type 0
  entered st m found n = (t : ℕ) × (n ≡ (idle (claim t [] ∷ []), []))
