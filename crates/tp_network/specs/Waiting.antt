-- The numbers of the frames that wait to be handed over, by the nodes between which they were sent.
use Rattle.std.specs.Prelude.{ℕ, suc, ◌≡◌, ◌<◌, ◌==◌, ◌&&◌, not, length, nat_lt, filter, Bool, true, false, Option, Some, None, List, [], ◌∷◌}
use Rattle.std.specs.Map.{lookup}
use Rattle.tp_model.specs.World.{Frame}
use Rattle.tp_network.specs.declared.waiting.Lane.{Lane}
use Rattle.tp_network.specs.declared.waiting.Waiting.TheInside.{Inside}

-- two nodes, from the one to the other
abbrev pub is_pair : ℕ × ℕ → ℕ × ℕ → Bool
is_pair p q = (p.0 == q.0) && (p.1 == q.1)

-- the lane from the one to the other
abbrev pub is_lane : ℕ → ℕ → Lane → Bool
is_lane a b l = (l.from == a) && (l.to == b)

-- the numbers that wait between two nodes, the oldest first
abbrev pub queue_at : List Lane → ℕ → ℕ → List ℕ
queue_at [] a b = []
queue_at (l ∷ ls) a b = elim (is_lane a b l) [ true ↦ l.queue | false ↦ queue_at ls a b ]

-- the place of the lane between two nodes; after all where there is none
abbrev pub place_on : List Lane → ℕ → ℕ → ℕ
place_on [] a b = 0
place_on (l ∷ ls) a b = elim (is_lane a b l) [ true ↦ 0 | false ↦ suc (place_on ls a b) ]

-- in a table of places
abbrev pub place_in : List ((ℕ × ℕ) × ℕ) → ℕ → ℕ → ℕ → ℕ
place_in es all a b = elim (lookup (is_pair (a, b)) es) [ None ↦ all | Some k ↦ k ]

-- no two lanes are between the same nodes
abbrev pub AreApart : List Lane → Type 0
AreApart [] = Unit {0}
AreApart (l ∷ ls) = (place_on ls l.from l.to ≡ length ls) × AreApart ls

-- the table has the places of the lanes, and no others
pub record AreLanes (v : Inside) : Type 0 where
  pub place : (a b : ℕ) → place_on v.lanes.items a b ≡ place_in v.places.entries (length v.lanes.items) a b
  pub within : (a b k : ℕ) → lookup (is_pair (a, b)) v.places.entries ≡ Some k → k < length v.lanes.items
  pub apart : AreApart v.lanes.items

abbrev pub first_of : List ℕ → Option ℕ
first_of [] = None
first_of (n ∷ ns) = Some n

-- those above a number
abbrev pub above : ℕ → List ℕ → List ℕ
above m ns = filter (nat_lt m) ns

-- ---- of a world's frames

-- the numbers of those that are not handed over and pass the test; k stand before the list
abbrev pub waiting_from : ℕ → (Frame → Bool) → List Frame → List ℕ
waiting_from k test [] = []
waiting_from k test (f ∷ fs) = elim (not f.handed && test f) [ true ↦ suc k ∷ waiting_from (suc k) test fs | false ↦ waiting_from (suc k) test fs ]
