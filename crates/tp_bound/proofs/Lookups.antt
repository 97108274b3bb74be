-- A write changes the value of its key and of no other, and the keys stay in order.
use Rattle.std.proofs.Common.{◌≡◌, ℕ, Bool, true, false, cond, Some, None, List, [], ◌∷◌, refl, sym, ap, ◌∙◌}
use Rattle.std.specs.List.{AllByRecursion}
use Rattle.std.specs.List.Sorted.{IsStrictlySortedBy}
use Rattle.std.specs.declared.cmp.Ordering.{Ordering}
use Rattle.std.specs.declared.cmp.Ordering.TheVariants.{Less, Equal, Greater}
use Rattle.std.specs.Ordering.{is_eq, match_ordering, ordering_reverse}
use Rattle.std.specs.Cmp.Lexicographic.{nat_list_cmp_total}
use Rattle.std.specs.Map.{keys_of}
use Rattle.std.proofs.lemmas.Map.Lookups.{exact_bytes}
use Rattle.tp_bound.specs.declared.write.Write.{Write}
use Rattle.tp_bound.specs.Content.{Content, compare, Ascends, value_of, put, without, made}

-- ---- the order

self_equal : (k : List ℕ) → compare k k ≡ Equal
self_equal k = go (compare k k) refl
  where
    go : (r : Ordering) → compare k k ≡ r → compare k k ≡ Equal
    go Less is = let e : Less ≡ Greater = sym is ∙ nat_list_cmp_total.antisymm k k ∙ ap ordering_reverse is in absurd cc
    go Equal is = is
    go Greater is = let e : Greater ≡ Less = sym is ∙ nat_list_cmp_total.antisymm k k ∙ ap ordering_reverse is in absurd cc

below : (x y : List ℕ) → compare x y ≡ Greater → compare y x ≡ Less
below x y is = nat_list_cmp_total.antisymm y x ∙ ap ordering_reverse is

apart : (q k : List ℕ) → (q ≡ k → ⊥) → is_eq (compare q k) ≡ false
apart q k ne = go (compare q k) refl
  where
    go : (r : Ordering) → compare q k ≡ r → is_eq (compare q k) ≡ false
    go Less is = ap is_eq is
    go Equal is = absurd (ne (exact_bytes q k is))
    go Greater is = ap is_eq is

equal_is : (r : Ordering) → is_eq r ≡ true → r ≡ Equal
equal_is Less is = absurd cc
equal_is Equal is = refl
equal_is Greater is = absurd cc

same_key : (k x : List ℕ) → is_eq (compare k x) ≡ true → k ≡ x
same_key k x is = exact_bytes k x (equal_is (compare k x) is)

-- ---- the value after a write

pub put_here : (es : Content) (k v : List ℕ) → value_of (put es k v) k ≡ Some v
put_here [] k v = ap (λ r. cond (is_eq r) (Some v) None) (self_equal k)
put_here (e ∷ es) k v = go (compare k e.0) refl (put_here es k v)
  where
    go : (r : Ordering) → compare k e.0 ≡ r → value_of (put es k v) k ≡ Some v → value_of (match_ordering r ((k, v) ∷ e ∷ es) ((e.0, v) ∷ es) (e ∷ put es k v)) k ≡ Some v
    go Less is later = ap (λ r. cond (is_eq r) (Some v) (value_of (e ∷ es) k)) (self_equal k)
    go Equal is later = ap (λ r. cond (is_eq r) (Some v) (value_of es k)) is
    go Greater is later = ap (λ r. cond (is_eq r) (Some e.1) (value_of (put es k v) k)) is ∙ later

pub put_elsewhere : (es : Content) (k v q : List ℕ) → (q ≡ k → ⊥) → value_of (put es k v) q ≡ value_of es q
put_elsewhere [] k v q ne = ap (λ t. cond t (Some v) None) (apart q k ne)
put_elsewhere (e ∷ es) k v q ne = go (compare k e.0) refl (put_elsewhere es k v q ne)
  where
    go : (r : Ordering) → compare k e.0 ≡ r → value_of (put es k v) q ≡ value_of es q → value_of (match_ordering r ((k, v) ∷ e ∷ es) ((e.0, v) ∷ es) (e ∷ put es k v)) q ≡ value_of (e ∷ es) q
    go Less is later = ap (λ t. cond t (Some v) (value_of (e ∷ es) q)) (apart q k ne)
    go Equal is later =
        let other : is_eq (compare q e.0) ≡ false = apart q e.0 (λ s. ne (s ∙ sym (exact_bytes k e.0 is))) in
        ap (λ t. cond t (Some v) (value_of es q)) other ∙ sym (ap (λ t. cond t (Some e.1) (value_of es q)) other)
    go Greater is later = ap (λ w. cond (is_eq (compare q e.0)) (Some e.1) w) later

none_above : (x : List ℕ) (es : Content) → AllByRecursion (λ y. compare x y ≡ Less) (keys_of es) → value_of es x ≡ None
none_above x [] all = refl
none_above x (e ∷ es) all = ap (λ r. cond (is_eq r) (Some e.1) (value_of es x)) all.0 ∙ none_above x es all.1

pub without_here : (es : Content) (k : List ℕ) → Ascends es → value_of (without es k) k ≡ None
unfolding IsStrictlySortedBy
without_here [] k sorted = refl
without_here (e ∷ es) k sorted = go (is_eq (compare k e.0)) refl (without_here es k sorted.1)
  where
    go : (t : Bool) → is_eq (compare k e.0) ≡ t → value_of (without es k) k ≡ None → value_of (cond t es (e ∷ without es k)) k ≡ None
    go true is later = ap (λ x. value_of es x) (same_key k e.0 is) ∙ none_above e.0 es sorted.0
    go false is later = ap (λ t. cond t (Some e.1) (value_of (without es k) k)) is ∙ later

pub without_elsewhere : (es : Content) (k q : List ℕ) → (q ≡ k → ⊥) → value_of (without es k) q ≡ value_of es q
without_elsewhere [] k q ne = refl
without_elsewhere (e ∷ es) k q ne = go (is_eq (compare k e.0)) refl (without_elsewhere es k q ne)
  where
    go : (t : Bool) → is_eq (compare k e.0) ≡ t → value_of (without es k) q ≡ value_of es q → value_of (cond t es (e ∷ without es k)) q ≡ value_of (e ∷ es) q
    go true is later = sym (ap (λ t. cond t (Some e.1) (value_of es q)) (apart q e.0 (λ s. ne (s ∙ sym (same_key k e.0 is)))))
    go false is later = ap (λ w. cond (is_eq (compare q e.0)) (Some e.1) w) later

-- ---- the order of the keys after a write

all_below : (k x : List ℕ) (ks : List (List ℕ)) → compare k x ≡ Less → AllByRecursion (λ y. compare x y ≡ Less) ks → AllByRecursion (λ y. compare k y ≡ Less) ks
all_below k x [] less all = tt
all_below k x (y ∷ ks) less all = (nat_list_cmp_total.trans k x y less all.0, all_below k x ks less all.1)

below_put : (x : List ℕ) (es : Content) (k v : List ℕ) → compare x k ≡ Less → AllByRecursion (λ y. compare x y ≡ Less) (keys_of es) → AllByRecursion (λ y. compare x y ≡ Less) (keys_of (put es k v))
below_put x [] k v less all = (less, tt)
below_put x (e ∷ es) k v less all = go (compare k e.0) (below_put x es k v less all.1)
  where
    go : (r : Ordering) → AllByRecursion (λ y. compare x y ≡ Less) (keys_of (put es k v))
        → AllByRecursion (λ y. compare x y ≡ Less) (keys_of (match_ordering r ((k, v) ∷ e ∷ es) ((e.0, v) ∷ es) (e ∷ put es k v)))
    go Less later = (less, all)
    go Equal later = all
    go Greater later = (all.0, later)

put_ascends : (es : Content) (k v : List ℕ) → Ascends es → Ascends (put es k v)
unfolding IsStrictlySortedBy
put_ascends [] k v sorted = (tt, tt)
put_ascends (e ∷ es) k v sorted = go (compare k e.0) refl (put_ascends es k v sorted.1)
  where
    go : (r : Ordering) → compare k e.0 ≡ r → Ascends (put es k v) → Ascends (match_ordering r ((k, v) ∷ e ∷ es) ((e.0, v) ∷ es) (e ∷ put es k v))
    go Less is later = ((is, all_below k e.0 (keys_of es) is sorted.0), sorted)
    go Equal is later = sorted
    go Greater is later = (below_put e.0 es k v (below k e.0 is) sorted.0, later)

below_without : (x : List ℕ) (es : Content) (k : List ℕ) → AllByRecursion (λ y. compare x y ≡ Less) (keys_of es) → AllByRecursion (λ y. compare x y ≡ Less) (keys_of (without es k))
below_without x [] k all = tt
below_without x (e ∷ es) k all = go (is_eq (compare k e.0)) (below_without x es k all.1)
  where
    go : (t : Bool) → AllByRecursion (λ y. compare x y ≡ Less) (keys_of (without es k)) → AllByRecursion (λ y. compare x y ≡ Less) (keys_of (cond t es (e ∷ without es k)))
    go true later = all.1
    go false later = (all.0, later)

without_ascends : (es : Content) (k : List ℕ) → Ascends es → Ascends (without es k)
unfolding IsStrictlySortedBy
without_ascends [] k sorted = tt
without_ascends (e ∷ es) k sorted = go (is_eq (compare k e.0)) (without_ascends es k sorted.1)
  where
    go : (t : Bool) → Ascends (without es k) → Ascends (cond t es (e ∷ without es k))
    go true later = sorted.1
    go false later = (below_without e.0 es k sorted.0, later)

pub made_ascends : (es : Content) (ws : List Write) → Ascends es → Ascends (made es ws)
made_ascends es [] sorted = sorted
made_ascends es (Write.Put k v ∷ ws) sorted = made_ascends (put es k v) ws (put_ascends es k v sorted)
made_ascends es (Write.Remove k ∷ ws) sorted = made_ascends (without es k) ws (without_ascends es k sorted)
