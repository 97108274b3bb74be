-- The nodes after a change of one of them.
use Rattle.std.proofs.Common.{◌≡◌, ◌≤◌, ◌<◌, ◌==◌, ℕ, zero, suc, Bool, true, false, refl, arith, List, [], ◌∷◌, length}
use Rattle.std.specs.Prelude.{slice_index_or, slice_set}
use Rattle.tp_network.specs.Nodes.{place_of_number, IsChanged, AreChanged, IsPartly, ArePartly}
use Rattle.tp_network.specs.declared.tree_summary.TreeChange.{TreeChange}
use Rattle.tp_network.specs.declared.nodes.NodeSlot.{NodeSlot}

pub changed_none : (xs : List NodeSlot) (n : ℕ) (s : TreeChange) → length xs ≤ place_of_number xs n → AreChanged n s xs xs
changed_none [] n s h = refl
changed_none (x ∷ xs) n s h = go (x.addr.node == n) refl (changed_none xs n s)
  where
    go : (b : Bool) → (x.addr.node == n) ≡ b → (length xs ≤ place_of_number xs n → AreChanged n s xs xs) → AreChanged n s (x ∷ xs) (x ∷ xs)
    go true e rest = absurd (let zero_place : place_of_number (x ∷ xs) n ≡ 0 = grind (arith, e) in omega (arith, zero_place, h))
    go false e rest = let one_more : place_of_number (x ∷ xs) n ≡ suc (place_of_number xs n) = grind (arith, e) in rw (e, AreChanged) (refl, rest (omega (arith, one_more, h)))

changed_place : (xs : List NodeSlot) (n : ℕ) (s : TreeChange) (d y : NodeSlot) (k : ℕ) → place_of_number xs n ≡ k → k < length xs → IsChanged s (slice_index_or xs k d) y → AreChanged n s xs (slice_set xs k y)
changed_place [] n s d y k p h i = absurd (omega (arith, h))
changed_place (x ∷ xs) n s d y zero p h i = go (x.addr.node == n) refl
  where
    go : (b : Bool) → (x.addr.node == n) ≡ b → AreChanged n s (x ∷ xs) (y ∷ xs)
    go true e = rw (e, AreChanged) (i, refl)
    go false e = absurd (let one_more : place_of_number (x ∷ xs) n ≡ suc (place_of_number xs n) = grind (arith, e) in omega (arith, one_more, p))
changed_place (x ∷ xs) n s d y (suc k) p h i = go (x.addr.node == n) refl (changed_place xs n s d y k)
  where
    go : (b : Bool) → (x.addr.node == n) ≡ b → (place_of_number xs n ≡ k → k < length xs → IsChanged s (slice_index_or xs k d) y → AreChanged n s xs (slice_set xs k y)) → AreChanged n s (x ∷ xs) (x ∷ slice_set xs k y)
    go true e rest = absurd (let zero_place : place_of_number (x ∷ xs) n ≡ 0 = grind (arith, e) in omega (arith, zero_place, p))
    go false e rest = let one_more : place_of_number (x ∷ xs) n ≡ suc (place_of_number xs n) = grind (arith, e) in rw (e, AreChanged) (refl, rest (omega (arith, one_more, p)) (omega (arith, h)) i)

pub changed_there : (xs : List NodeSlot) (n : ℕ) (s : TreeChange) (d y : NodeSlot) → place_of_number xs n < length xs → IsChanged s (slice_index_or xs (place_of_number xs n) d) y → AreChanged n s xs (slice_set xs (place_of_number xs n) y)
changed_there xs n s d y h i = changed_place xs n s d y (place_of_number xs n) refl h i

-- where it was cut short

partly_place : (xs : List NodeSlot) (n : ℕ) (s : TreeChange) (d y : NodeSlot) (k : ℕ) → place_of_number xs n ≡ k → k < length xs → IsPartly s (slice_index_or xs k d) y → ArePartly n s xs (slice_set xs k y)
partly_place [] n s d y k p h i = absurd (omega (arith, h))
partly_place (x ∷ xs) n s d y zero p h i = go (x.addr.node == n) refl
  where
    go : (b : Bool) → (x.addr.node == n) ≡ b → ArePartly n s (x ∷ xs) (y ∷ xs)
    go true e = rw (e, ArePartly) (i, refl)
    go false e = absurd (let one_more : place_of_number (x ∷ xs) n ≡ suc (place_of_number xs n) = grind (arith, e) in omega (arith, one_more, p))
partly_place (x ∷ xs) n s d y (suc k) p h i = go (x.addr.node == n) refl (partly_place xs n s d y k)
  where
    go : (b : Bool) → (x.addr.node == n) ≡ b → (place_of_number xs n ≡ k → k < length xs → IsPartly s (slice_index_or xs k d) y → ArePartly n s xs (slice_set xs k y)) → ArePartly n s (x ∷ xs) (x ∷ slice_set xs k y)
    go true e rest = absurd (let zero_place : place_of_number (x ∷ xs) n ≡ 0 = grind (arith, e) in omega (arith, zero_place, p))
    go false e rest = let one_more : place_of_number (x ∷ xs) n ≡ suc (place_of_number xs n) = grind (arith, e) in rw (e, ArePartly) (refl, rest (omega (arith, one_more, p)) (omega (arith, h)) i)

pub partly_there : (xs : List NodeSlot) (n : ℕ) (s : TreeChange) (d y : NodeSlot) → place_of_number xs n < length xs → IsPartly s (slice_index_or xs (place_of_number xs n) d) y → ArePartly n s xs (slice_set xs (place_of_number xs n) y)
partly_there xs n s d y h i = partly_place xs n s d y (place_of_number xs n) refl h i
