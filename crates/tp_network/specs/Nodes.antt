-- The nodes of a world as the code keeps them, found by their numbers.
use Rattle.std.specs.Prelude.{ℕ, zero, suc, ◌≡◌, ◌<◌, ◌==◌, nat_eq, cond, length, Bool, true, false, Option, Some, None, List, [], ◌∷◌}
use Rattle.std.specs.Map.{lookup}
use Rattle.std.specs.Option.{option_map}
use Rattle.tp_names.specs.declared.identifiers.Aaid.{Aaid}
use Rattle.tp_names.specs.declared.identifiers.Addr.{Addr}
use Rattle.tp_network.specs.TreeSummary.{no_summary, speaks_of, summary_after}
use Rattle.tp_network.specs.TreeSummaries.{summary_at}
use Rattle.tp_network.specs.declared.tree_summary.TreeChange.{TreeChange}
use Rattle.tp_network.specs.declared.nodes.NodeSlot.{NodeSlot}
use Rattle.tp_network.specs.declared.nodes.Nodes.TheInside.{Inside}

abbrev pub find_slot : List NodeSlot → ℕ → Option NodeSlot
find_slot [] n = None
find_slot (x ∷ xs) n = elim (x.addr.node == n) [ true ↦ Some x | false ↦ find_slot xs n ]

-- after all where there is none
abbrev pub place_of_number : List NodeSlot → ℕ → ℕ
place_of_number [] n = 0
place_of_number (x ∷ xs) n = elim (x.addr.node == n) [ true ↦ 0 | false ↦ suc (place_of_number xs n) ]

-- in a table of places
abbrev pub place_in : List (ℕ × ℕ) → ℕ → ℕ → ℕ
place_in es all n = elim (lookup (nat_eq n) es) [ None ↦ all | Some k ↦ k ]

-- one more place is in the table, where the number had none
abbrev pub noted : Option ℕ → Bool → ℕ → Option ℕ
noted (Some k) b p = Some k
noted None b p = cond b (Some p) None

abbrev pub IsNoted : List (ℕ × ℕ) → ℕ → ℕ → List (ℕ × ℕ) → Type 0
IsNoted es n p new = (k : ℕ) → lookup (nat_eq k) new ≡ noted (lookup (nat_eq k) es) (nat_eq n k) p

-- the first so many have consecutive numbers, from this one on
abbrev pub IsRun : ℕ → ℕ → List NodeSlot → Type 0
IsRun zero n xs = Unit {0}
IsRun (suc k) n [] = ⊥
IsRun (suc k) n (x ∷ xs) = (x.addr.node ≡ n) × IsRun k (suc n) xs

-- the table has the places of the numbers, and no others; those that are told without it are consecutive
pub record ArePlaced (v : Inside) : Type 0 where
  pub place : (n : ℕ) → place_of_number v.items.items n ≡ place_in v.places.entries (length v.items.items) n
  pub within : (n k : ℕ) → lookup (nat_eq n) v.places.entries ≡ Some k → k < length v.items.items
  pub run : IsRun v.run.count v.run.first v.items.items

abbrev pub address_at : List NodeSlot → ℕ → Option Addr
address_at xs n = option_map (λ x. x.addr) (find_slot xs n)

-- ---- changes

-- a node as it comes: it had to do with no tree
pub record IsDeclared (a : Addr) (up : Option Addr) (x : NodeSlot) : Type 0 where
  pub addr : x.addr ≡ a
  pub superior : x.superior ≡ up
  pub summaries : (t : Aaid) → summary_at x.summaries t ≡ no_summary

-- its summaries after a change
pub record IsChanged (s : TreeChange) (old new : NodeSlot) : Type 0 where
  pub addr : new.addr ≡ old.addr
  pub superior : new.superior ≡ old.superior
  pub summaries : (t : Aaid) → summary_at new.summaries t ≡ summary_after t s (summary_at old.summaries t)

-- the first node of that number takes the change, and no other does
abbrev pub AreChanged : ℕ → TreeChange → List NodeSlot → List NodeSlot → Type 0
AreChanged n s [] ys = ys ≡ []
AreChanged n s (x ∷ xs) [] = ⊥
AreChanged n s (x ∷ xs) (y ∷ ys) = elim (x.addr.node == n) [ true ↦ IsChanged s x y × (ys ≡ xs) | false ↦ (y ≡ x) × AreChanged n s xs ys ]

-- its summaries where a change was cut short: those in the trees of which the change does not speak
pub record IsPartly (s : TreeChange) (old new : NodeSlot) : Type 0 where
  pub addr : new.addr ≡ old.addr
  pub superior : new.superior ≡ old.superior
  pub summaries : (t : Aaid) → speaks_of t s ≡ false → summary_at new.summaries t ≡ summary_at old.summaries t

-- the first node of that number alone may have changed, in the trees of which the change speaks
abbrev pub ArePartly : ℕ → TreeChange → List NodeSlot → List NodeSlot → Type 0
ArePartly n s [] ys = ys ≡ []
ArePartly n s (x ∷ xs) [] = ⊥
ArePartly n s (x ∷ xs) (y ∷ ys) = elim (x.addr.node == n) [ true ↦ IsPartly s x y × (ys ≡ xs) | false ↦ (y ≡ x) × ArePartly n s xs ys ]
