-- Receipts by place, and which of several lists has the first.
use Rattle.std.specs.Prelude.{ℕ, ◌≡◌, ◌<◌, ◌≤◌, List, [], ◌∷◌, length, slice_index_or, Option, Some, None, IfSome}
use Rattle.std.specs.List.{All, AllByRecursion}
use Rattle.tp_journal.specs.declared.receipts.Receipt.{Receipt}

-- each place is greater than those before it
abbrev pub AreRising : List Receipt → Type 0
AreRising [] = Unit {0}
AreRising (r ∷ rs) = AllByRecursion (λ later. r.place < later.place) rs × AreRising rs

-- the place of the first receipt
abbrev pub front_place : List Receipt → Option ℕ
front_place [] = None
front_place (r ∷ rs) = Some r.place

-- this list has a first receipt, and no list has one with a lesser place
pub record IsFirst (queues : List (List Receipt)) (i : ℕ) : Type 0 where
  pub within : i < length queues
  pub place : ℕ
  pub front : (d : List Receipt) → front_place (slice_index_or queues i d) ≡ Some place
  pub least : All (λ q. IfSome (front_place q) (λ other. place ≤ other)) queues
