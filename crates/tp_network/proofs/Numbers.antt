-- Nodes of a world found by their numbers.
use Rattle.std.proofs.Common.{◌≡◌, ◌≤◌, ◌<◌, ◌+◌, ◌++◌, ◌==◌, ℕ, zero, suc, Bool, true, false, refl, ap, sym, ◌∙◌, arith, Option, Some, None, List, [], ◌∷◌, length, length-append, length-set}
use Rattle.std.specs.Map.{lookup}
use Rattle.std.specs.Prelude.{cond, nat_eq, slice_index_or, slice_set}
use Rattle.tp_network.specs.Nodes.{IsNoted, find_slot, noted, place_in, place_of_number}
use Rattle.tp_network.specs.declared.nodes.NodeSlot.{NodeSlot}

pub found_at : (xs : List NodeSlot) (n : ℕ) (d : NodeSlot) → place_of_number xs n < length xs → find_slot xs n ≡ Some (slice_index_or xs (place_of_number xs n) d)
found_at [] n d h = absurd (omega arith)
found_at (x ∷ xs) n d h = go (x.addr.node == n) refl (found_at xs n d)
  where
    go : (b : Bool) → (x.addr.node == n) ≡ b → (place_of_number xs n < length xs → find_slot xs n ≡ Some (slice_index_or xs (place_of_number xs n) d))
        → find_slot (x ∷ xs) n ≡ Some (slice_index_or (x ∷ xs) (place_of_number (x ∷ xs) n) d)
    go true e rest = grind (arith, e)
    go false e rest = let one_more : place_of_number (x ∷ xs) n ≡ suc (place_of_number xs n) = grind (arith, e) in let tail = rest (omega (arith, one_more, h)) in grind (arith, e, tail)

pub found_not : (xs : List NodeSlot) (n : ℕ) → length xs ≤ place_of_number xs n → find_slot xs n ≡ None
found_not [] n h = refl
found_not (x ∷ xs) n h = go (x.addr.node == n) refl (found_not xs n)
  where
    go : (b : Bool) → (x.addr.node == n) ≡ b → (length xs ≤ place_of_number xs n → find_slot xs n ≡ None) → find_slot (x ∷ xs) n ≡ None
    go true e rest = absurd (let zero_place : place_of_number (x ∷ xs) n ≡ 0 = grind (arith, e) in omega (arith, zero_place, h))
    go false e rest = let one_more : place_of_number (x ∷ xs) n ≡ suc (place_of_number xs n) = grind (arith, e) in let tail = rest (omega (arith, one_more, h)) in grind (arith, e, tail)

-- ---- a node more

place_kept : (xs : List NodeSlot) (x : NodeSlot) (n : ℕ) → place_of_number xs n < length xs → place_of_number (xs ++ x ∷ []) n ≡ place_of_number xs n
place_kept [] x n h = absurd (omega arith)
place_kept (y ∷ xs) x n h = go (y.addr.node == n) refl (place_kept xs x n)
  where
    go : (b : Bool) → (y.addr.node == n) ≡ b → (place_of_number xs n < length xs → place_of_number (xs ++ x ∷ []) n ≡ place_of_number xs n) → place_of_number (y ∷ xs ++ x ∷ []) n ≡ place_of_number (y ∷ xs) n
    go true e rest = grind (arith, e)
    go false e rest = let one_more : place_of_number (y ∷ xs) n ≡ suc (place_of_number xs n) = grind (arith, e) in let tail = rest (omega (arith, one_more, h)) in grind (arith, e, tail)

place_new : (xs : List NodeSlot) (x : NodeSlot) (n : ℕ) → place_of_number xs n ≡ length xs → place_of_number (xs ++ x ∷ []) n ≡ length xs + cond (x.addr.node == n) 0 1
place_new [] x n h = go (x.addr.node == n) refl
  where
    go : (b : Bool) → (x.addr.node == n) ≡ b → place_of_number (x ∷ []) n ≡ 0 + cond (x.addr.node == n) 0 1
    go true e = grind (arith, e)
    go false e = grind (arith, e)
place_new (y ∷ xs) x n h = go (y.addr.node == n) refl (place_new xs x n)
  where
    go : (b : Bool) → (y.addr.node == n) ≡ b → (place_of_number xs n ≡ length xs → place_of_number (xs ++ x ∷ []) n ≡ length xs + cond (x.addr.node == n) 0 1)
        → place_of_number (y ∷ xs ++ x ∷ []) n ≡ length (y ∷ xs) + cond (x.addr.node == n) 0 1
    go true e rest = absurd (let none : place_of_number (y ∷ xs) n ≡ 0 = grind (arith, e) in omega (arith, none, h))
    go false e rest =
        let one_more : place_of_number (y ∷ xs) n ≡ suc (place_of_number xs n) = grind (arith, e) in
        let tail = rest (omega (arith, one_more, h)) in
        let on : place_of_number (y ∷ xs ++ x ∷ []) n ≡ suc (place_of_number (xs ++ x ∷ []) n) = grind (arith, e) in
        omega (arith, on, tail)

-- the table with the place of a node that comes
pub places_more : (xs : List NodeSlot) (es new : List (ℕ × ℕ)) (x : NodeSlot) → ((n : ℕ) → place_of_number xs n ≡ place_in es (length xs) n) → ((n k : ℕ) → lookup (nat_eq n) es ≡ Some k → k < length xs)
    → IsNoted es x.addr.node (length xs) new → (n : ℕ) → place_of_number (xs ++ x ∷ []) n ≡ place_in new (length (xs ++ x ∷ [])) n
places_more xs es new x place within note n = go (lookup (nat_eq n) es) refl (nat_eq x.addr.node n) refl
  where
    found : (o : Option ℕ) → lookup (nat_eq n) es ≡ o → (b : Bool) → nat_eq x.addr.node n ≡ b → lookup (nat_eq n) new ≡ noted o b (length xs)
    found o i b e = note n ∙ ap (λ p. noted p (nat_eq x.addr.node n) (length xs)) i ∙ ap (λ c. noted o c (length xs)) e

    go : (o : Option ℕ) → lookup (nat_eq n) es ≡ o → (b : Bool) → nat_eq x.addr.node n ≡ b → place_of_number (xs ++ x ∷ []) n ≡ place_in new (length (xs ++ x ∷ [])) n
    go (Some k) i b e =
        let was : place_of_number xs n ≡ k = place n ∙ ap (λ o. elim o as (λ _. ℕ) [ None ↦ length xs | Some j ↦ j ]) i in
        let less = within n k i in
        place_kept xs x n (omega (arith, was, less)) ∙ was ∙ sym (ap (λ o. elim o as (λ _. ℕ) [ None ↦ length (xs ++ x ∷ []) | Some j ↦ j ]) (found (Some k) i b e))
    go None i true e =
        let was : place_of_number xs n ≡ length xs = place n ∙ ap (λ o. elim o as (λ _. ℕ) [ None ↦ length xs | Some j ↦ j ]) i in
        let at_end : length xs + cond (nat_eq x.addr.node n) 0 1 ≡ length xs = ap (λ c. length xs + cond c 0 1) e ∙ omega arith in
        place_new xs x n was ∙ at_end ∙ sym (ap (λ o. elim o as (λ _. ℕ) [ None ↦ length (xs ++ x ∷ []) | Some j ↦ j ]) (found None i true e))
    go None i false e =
        let was : place_of_number xs n ≡ length xs = place n ∙ ap (λ o. elim o as (λ _. ℕ) [ None ↦ length xs | Some j ↦ j ]) i in
        let past : length xs + cond (nat_eq x.addr.node n) 0 1 ≡ length (xs ++ x ∷ []) = ap (λ c. length xs + cond c 0 1) e ∙ sym (length-append xs (x ∷ [])) in
        place_new xs x n was ∙ past ∙ sym (ap (λ o. elim o as (λ _. ℕ) [ None ↦ length (xs ++ x ∷ []) | Some j ↦ j ]) (found None i false e))

pub within_more : (xs : List NodeSlot) (es new : List (ℕ × ℕ)) (x : NodeSlot) → ((n k : ℕ) → lookup (nat_eq n) es ≡ Some k → k < length xs) → IsNoted es x.addr.node (length xs) new
    → (n k : ℕ) → lookup (nat_eq n) new ≡ Some k → k < length (xs ++ x ∷ [])
within_more xs es new x within note n k h = go (lookup (nat_eq n) es) refl (nat_eq x.addr.node n) refl
  where
    far : length (xs ++ x ∷ []) ≡ length xs + 1
    far = length-append xs (x ∷ [])

    found : (o : Option ℕ) → lookup (nat_eq n) es ≡ o → (b : Bool) → nat_eq x.addr.node n ≡ b → noted o b (length xs) ≡ Some k
    found o i b e = sym (note n ∙ ap (λ p. noted p (nat_eq x.addr.node n) (length xs)) i ∙ ap (λ c. noted o c (length xs)) e) ∙ h

    go : (o : Option ℕ) → lookup (nat_eq n) es ≡ o → (b : Bool) → nat_eq x.addr.node n ≡ b → k < length (xs ++ x ∷ [])
    go (Some j) i b e = let less = within n j i in let one : Some j ≡ Some k = found (Some j) i b e in let same : j ≡ k = cc in omega (arith, far, less, same)
    go None i true e = let one : Some (length xs) ≡ Some k = found None i true e in let same : length xs ≡ k = cc in omega (arith, far, same)
    go None i false e = absurd (let one : None ≡ Some k = found None i false e in cc)

-- ---- a node that changes and keeps its address

place_set : (xs : List NodeSlot) (k : ℕ) (y d : NodeSlot) → y.addr.node ≡ (slice_index_or xs k d).addr.node → (n : ℕ) → place_of_number (slice_set xs k y) n ≡ place_of_number xs n
place_set [] k y d e n = refl
place_set (x ∷ xs) zero y d e n = ap (λ (m : ℕ). elim (m == n) as (λ _. ℕ) [ true ↦ 0 | false ↦ suc (place_of_number xs n) ]) e
place_set (x ∷ xs) (suc k) y d e n = ap (λ (m : ℕ). elim (x.addr.node == n) as (λ _. ℕ) [ true ↦ 0 | false ↦ suc m ]) (place_set xs k y d e n)

pub placed_step : (xs : List NodeSlot) (es : List (ℕ × ℕ)) (k : ℕ) (y d : NodeSlot) → y.addr.node ≡ (slice_index_or xs k d).addr.node → ((n : ℕ) → place_of_number xs n ≡ place_in es (length xs) n)
    → (n : ℕ) → place_of_number (slice_set xs k y) n ≡ place_in es (length (slice_set xs k y)) n
placed_step xs es k y d e place n = place_set xs k y d e n ∙ place n ∙ ap (λ (all : ℕ). place_in es all n) (sym (length-set xs k y))

pub within_step : (xs : List NodeSlot) (es : List (ℕ × ℕ)) (k : ℕ) (y : NodeSlot) → ((n j : ℕ) → lookup (nat_eq n) es ≡ Some j → j < length xs) → (n j : ℕ) → lookup (nat_eq n) es ≡ Some j → j < length (slice_set xs k y)
within_step xs es k y within n j h = let same = length-set xs k y in let less = within n j h in omega (arith, same, less)
