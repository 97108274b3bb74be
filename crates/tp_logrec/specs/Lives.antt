-- What stands of a list by its keys: of each that is not at its end, which record was its first since its last End, and its
-- records since then. A life stands where its first record does.
use Rattle.std.specs.Prelude.{ℕ, suc, ◌==◌, true, false, Option, Some, None, List, [], ◌∷◌, ◌++◌}
use Rattle.std.specs.Map.{lookup}
use Rattle.tp_logrec.specs.declared.record.LogRec.{LogRec}
use Rattle.tp_logrec.specs.declared.owner.Owner.{Owner}
use Rattle.tp_logrec.specs.Order.{owner_of, is_owner, is_end, Life}

pub record Begun : Type 0 where
  pub first : ℕ
  pub records : List LogRec

-- what is kept of the key
abbrev pub begun : List (Owner × Begun) → Owner → Option Begun
begun ks o = lookup (is_owner o) ks

abbrev pub gone_on : Begun → LogRec → Begun
gone_on b r = record { first = b.first; records = b.records ++ r ∷ [] }

-- with one more record of the key, the i-th of the list
abbrev pub with_more : ℕ → Option Begun → LogRec → Begun
with_more i None r = record { first = i; records = r ∷ [] }
with_more i (Some b) r = gone_on b r

abbrev pub begun_by : ℕ → Option Begun → LogRec → Option Begun
begun_by i b r = elim (is_end r) [ true ↦ None | false ↦ Some (with_more i b r) ]

abbrev pub begun_after : ℕ → Option Begun → Owner → LogRec → Option Begun
begun_after i b o r = elim (owner_of r) [ None ↦ b | Some p ↦ elim (is_owner p o) [ true ↦ begun_by i b r | false ↦ b ] ]

abbrev pub begun_from : ℕ → Option Begun → Owner → List LogRec → Option Begun
begun_from i b o [] = b
begun_from i b o (r ∷ rs) = begun_from (suc i) (begun_after i b o r) o rs

-- ---- the lives, each where its first record is

abbrev pub life_of : Owner → Option Begun → ℕ → List Life
life_of o None i = []
life_of o (Some b) i = elim (b.first == i) [ true ↦ record { owner = o; records = b.records } ∷ [] | false ↦ [] ]

-- the life that begins with the record, which is the i-th
abbrev pub life_at : (Owner → Option Begun) → ℕ → LogRec → List Life
life_at f i r = elim (owner_of r) [ None ↦ [] | Some o ↦ life_of o (f o) i ]

abbrev pub lives_begun : (Owner → Option Begun) → ℕ → List LogRec → List Life
lives_begun f i [] = []
lives_begun f i (r ∷ rs) = life_at f i r ++ lives_begun f (suc i) rs
