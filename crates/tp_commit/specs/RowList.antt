-- The branches of a transaction as it keeps them: whether the numbers of their peers ascend.
use Rattle.std.specs.Prelude.{ℕ, ◌≡◌, ◌<◌, ◌≤◌, ◌-◌, nat_lt, Bool, true, Some, None, List, [], ◌∷◌, ⊤, suc, length, take, slice_get, slice_index_or, vec_capacity}
use Rattle.tp_model.specs.Transactions.{Row as RowValue, find_row}
use Rattle.tp_commit.specs.Row.{numbers_of}
use Rattle.tp_commit.specs.declared.row_list.RowList.TheInside.{Inside}

-- the number is above that of the last one's peer, where there is a last one
abbrev pub ends_below : List RowValue → ℕ → Bool
ends_below rs p = elim (slice_get rs (length rs - 1)) [ None ↦ true | Some r ↦ nat_lt r.branch.peer.node p ]

-- each is above the one before it, and the first one no less than that
abbrev pub Ascends : ℕ → List ℕ → Type 0
Ascends least [] = ⊤
Ascends least (n ∷ ns) = (least ≤ n) × Ascends (suc n) ns

-- there is room for 256 branches, and the numbers of the peers ascend where it says so
pub record IsKept (l : Inside) : Type 0 where
  pub room : 256 ≤ vec_capacity l.rows
  pub ascends : l.ascends ≡ true → Ascends 0 (numbers_of l.rows.items)

-- the first branch with that peer is at that place
pub record IsFirstWith (rs : List RowValue) (peer place : ℕ) : Type 0 where
  pub inside : place < length rs
  pub with_peer : (d : RowValue) → (slice_index_or rs place d).branch.peer.node ≡ peer
  pub none_before : find_row (take place rs) peer ≡ None
