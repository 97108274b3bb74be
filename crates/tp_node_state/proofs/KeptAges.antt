-- Kept transactions by their age, and the list that they are.
use Rattle.std.proofs.Common.{◌≡◌, ◌<◌, ℕ, zero, suc, Bool, true, false, Option, Some, None, List, [], ◌∷◌, ◌++◌, length, refl, ap, sym, subst, ◌∙◌, arith, cond, if◌then◌else◌}
use Rattle.std.specs.Prelude.{Box, slice_get, ◌==◌}
use Rattle.std.specs.BTreeMap.{is_at, insert_entry}
use Rattle.std.specs.List.Sorted.{IsStrictlySortedBy}
use Rattle.std.specs.List.{AllByRecursion}
use Rattle.std.specs.Map.{keys_of, values_of, set_value, remove_entry}
use Rattle.std.specs.Option.{option_map}
use Rattle.std.specs.Ordering.{nat_cmp, is_eq}
use Rattle.std.specs.declared.alloc.Global.{Global}
use Rattle.std.specs.declared.cmp.Ordering.{Ordering}
use Rattle.std.proofs.lemmas.Bool.Decides.{nat_tests}
use Rattle.tp_names.specs.declared.identifiers.Aaid.{Aaid}
use Rattle.tp_names.specs.declared.identifiers.NodeKey.{NodeKey}
use Rattle.tp_names.specs.Same.{is_aaid, is_key}
use Rattle.tp_names.proofs.Sames.{key_same, key_self, aaid_same, aaid_self}
use Rattle.tp_model.specs.declared.recovery.Kept.{Kept}
use Rattle.tp_model.specs.Recovery.{find_kept, without_kept}
use Rattle.tp_node_state.specs.Kept.{with_kept, listed, age_of, at_age, AreSingle}

pub listed_length : (es : List (ℕ × Box Kept Global)) → length es ≡ length (listed es)
listed_length [] = refl
listed_length (e ∷ es) = ap suc (listed_length es)

pub value_at : (es : List (ℕ × Box Kept Global)) (i : ℕ) (o : Option (Box Kept Global)) → o ≡ slice_get (values_of es) i → option_map (λ b. b.value) o ≡ slice_get (listed es) i
value_at es i o is = ap (option_map (λ b. b.value)) is ∙ go es i
  where
    go : (es : List (ℕ × Box Kept Global)) (i : ℕ) → option_map (λ b. b.value) (slice_get (values_of es) i) ≡ slice_get (listed es) i
    go [] i = refl
    go (e ∷ es) zero = refl
    go (e ∷ es) (suc i) = go es i

-- ---- in order

abbrev pub AreAbove : ℕ → List (ℕ × Box Kept Global) → Type 0
AreAbove n [] = Unit {0}
AreAbove n (e ∷ es) = (n < e.0) × AreAbove n es

abbrev pub Ascend : List (ℕ × Box Kept Global) → Type 0
Ascend [] = Unit {0}
Ascend (e ∷ es) = AreAbove e.0 es × Ascend es

all_above : (n : ℕ) (es : List (ℕ × Box Kept Global)) → AllByRecursion (λ y. nat_cmp n y ≡ Ordering.Less) (keys_of es) → AreAbove n es
all_above n [] h = tt
all_above n (e ∷ es) h = (let less = h.0 in grind (arith, nat_tests, less), all_above n es h.1)

pub ascends : (es : List (ℕ × Box Kept Global)) → IsStrictlySortedBy nat_cmp (keys_of es) → Ascend es
unfolding IsStrictlySortedBy
ascends [] h = tt
ascends (e ∷ es) h = (all_above e.0 es h.0, ascends es h.1)

pub at_itself : (n : ℕ) → is_at (nat_cmp n) n ≡ true
at_itself n = grind (arith, nat_tests)

pub at_above : (n m : ℕ) → n < m → is_at (nat_cmp m) n ≡ false
at_above n m h = grind (arith, nat_tests, h)

-- the age of a key is among theirs
pub age_above : (es : List (ℕ × Box Kept Global)) (q : NodeKey) (n a : ℕ) → AreAbove n es → age_of es q ≡ Some a → n < a
age_above [] q n a h is = absurd (cc is)
age_above (e ∷ es) q n a h is = go (is_key e.1.value.key q) refl (age_above es q n a h.1)
  where
    go : (b : Bool) → is_key e.1.value.key q ≡ b → (age_of es q ≡ Some a → n < a) → n < a
    go true f rest = let same : e.0 ≡ a = grind (arith, f, is) in subst (λ m. n < m) same h.0
    go false f rest = rest (grind (arith, f, is))

-- ---- the one with a key

pub found_none : (es : List (ℕ × Box Kept Global)) (q : NodeKey) → age_of es q ≡ None → find_kept (listed es) q ≡ None
found_none [] q h = refl
found_none (e ∷ es) q h = grind (arith, h, found_none es q)

pub found : (es : List (ℕ × Box Kept Global)) (q : NodeKey) (a : ℕ) → Ascend es → age_of es q ≡ Some a → option_map (λ b. b.value) (at_age es a) ≡ find_kept (listed es) q
found [] q a h is = absurd (cc is)
found (e ∷ es) q a h is = go (is_key e.1.value.key q) refl (found es q a h.1)
  where
    go : (b : Bool) → is_key e.1.value.key q ≡ b → (age_of es q ≡ Some a → option_map (λ b. b.value) (at_age es a) ≡ find_kept (listed es) q)
        → option_map (λ b. b.value) (at_age (e ∷ es) a) ≡ find_kept (listed (e ∷ es)) q
    go true f rest = let same : e.0 ≡ a = grind (arith, f, is) in let own = subst (λ m. is_at (nat_cmp m) e.0 ≡ true) same (at_itself e.0) in grind (arith, f, own)
    go false f rest =
        let tail : age_of es q ≡ Some a = grind (arith, f, is) in
        let other = at_above e.0 a (age_above es q e.0 a h.0 tail) in
        let left = rest tail in
        grind (arith, f, other, left)

pub replaced : (es : List (ℕ × Box Kept Global)) (b : Box Kept Global) (a : ℕ) → Ascend es → age_of es b.value.key ≡ Some a → listed (set_value (is_at (nat_cmp a)) es b) ≡ with_kept (listed es) b.value
replaced [] b a h is = absurd (cc is)
replaced (e ∷ es) b a h is = go (is_key e.1.value.key b.value.key) refl (replaced es b a h.1)
  where
    go : (c : Bool) → is_key e.1.value.key b.value.key ≡ c → (age_of es b.value.key ≡ Some a → listed (set_value (is_at (nat_cmp a)) es b) ≡ with_kept (listed es) b.value)
        → listed (set_value (is_at (nat_cmp a)) (e ∷ es) b) ≡ with_kept (listed (e ∷ es)) b.value
    go true f rest = let same : e.0 ≡ a = grind (arith, f, is) in let own = subst (λ m. is_at (nat_cmp m) e.0 ≡ true) same (at_itself e.0) in grind (arith, f, own)
    go false f rest =
        let tail : age_of es b.value.key ≡ Some a = grind (arith, f, is) in
        let other = at_above e.0 a (age_above es b.value.key e.0 a h.0 tail) in
        let left = rest tail in
        grind (arith, f, other, left)

pub removed : (es : List (ℕ × Box Kept Global)) (q : NodeKey) (a : ℕ) → Ascend es → age_of es q ≡ Some a → listed (remove_entry (is_at (nat_cmp a)) es) ≡ without_kept (listed es) q
removed [] q a h is = absurd (cc is)
removed (e ∷ es) q a h is = go (is_key e.1.value.key q) refl (removed es q a h.1)
  where
    go : (c : Bool) → is_key e.1.value.key q ≡ c → (age_of es q ≡ Some a → listed (remove_entry (is_at (nat_cmp a)) es) ≡ without_kept (listed es) q)
        → listed (remove_entry (is_at (nat_cmp a)) (e ∷ es)) ≡ without_kept (listed (e ∷ es)) q
    go true f rest = let same : e.0 ≡ a = grind (arith, f, is) in let own = subst (λ m. is_at (nat_cmp m) e.0 ≡ true) same (at_itself e.0) in grind (arith, f, own)
    go false f rest =
        let tail : age_of es q ≡ Some a = grind (arith, f, is) in
        let other = at_above e.0 a (age_above es q e.0 a h.0 tail) in
        let left = rest tail in
        grind (arith, f, other, left)

pub removed_none : (es : List (ℕ × Box Kept Global)) (q : NodeKey) → age_of es q ≡ None → listed es ≡ without_kept (listed es) q
removed_none [] q h = refl
removed_none (e ∷ es) q h = grind (arith, h, removed_none es q)

pub put_behind : (es : List (ℕ × Box Kept Global)) (k : Kept) → age_of es k.key ≡ None → listed es ++ k ∷ [] ≡ with_kept (listed es) k
put_behind [] k h = refl
put_behind (e ∷ es) k h = grind (arith, h, put_behind es k)

-- ---- no two have a key

pub find_put : (ks : List Kept) (k : Kept) (q : NodeKey) → is_key k.key q ≡ false → find_kept (with_kept ks k) q ≡ find_kept ks q
find_put [] k q h = grind (arith, h)
find_put (x ∷ ks) k q h = go (is_key x.key k.key) refl (find_put ks k q h)
  where
    go : (b : Bool) → is_key x.key k.key ≡ b → find_kept (with_kept ks k) q ≡ find_kept ks q → find_kept (with_kept (x ∷ ks) k) q ≡ find_kept (x ∷ ks) q
    go true e rest = let other : is_key x.key q ≡ false = ap (λ (y : NodeKey). is_key y q) (key_same x.key k.key e) ∙ h in grind (arith, e, h, other)
    go false e rest = grind (arith, e, rest)

key_either : (a b : NodeKey) → is_key a b ≡ false → is_key b a ≡ false
key_either a b e = go (is_key b a) refl
  where
    go : (c : Bool) → is_key b a ≡ c → is_key b a ≡ false
    go true f = let same : is_key a b ≡ true = ap (λ x. is_key x b) (sym (key_same b a f)) ∙ key_self b in absurd (cc (sym same ∙ e))
    go false f = f

pub single_put : (ks : List Kept) (k : Kept) → AreSingle ks → AreSingle (with_kept ks k)
single_put [] k h = (refl, tt)
single_put (x ∷ ks) k h = go (is_key x.key k.key) refl (single_put ks k h.1)
  where
    at : Bool → Type 0
    at b = AreSingle (if b then k ∷ ks else x ∷ with_kept ks k)

    go : (b : Bool) → is_key x.key k.key ≡ b → AreSingle (with_kept ks k) → at (is_key x.key k.key)
    go true e rest = subst at (sym e) (ap (find_kept ks) (sym (key_same x.key k.key e)) ∙ h.0, h.1)
    go false e rest = subst at (sym e) (find_put ks k x.key (key_either x.key k.key e) ∙ h.0, rest)

removed_not : (ks : List Kept) (r q : NodeKey) → find_kept ks q ≡ None → find_kept (without_kept ks r) q ≡ None
removed_not [] r q h = refl
removed_not (x ∷ ks) r q h = go (is_key x.key r) refl (removed_not ks r q)
  where
    tail : find_kept ks q ≡ None
    tail = grind (arith, h)

    go : (b : Bool) → is_key x.key r ≡ b → (find_kept ks q ≡ None → find_kept (without_kept ks r) q ≡ None) → find_kept (without_kept (x ∷ ks) r) q ≡ None
    go true e rest = grind (arith, e, tail)
    go false e rest = let left = rest tail in grind (arith, e, h, left)

pub single_removed : (ks : List Kept) (q : NodeKey) → AreSingle ks → AreSingle (without_kept ks q)
single_removed [] q h = tt
single_removed (x ∷ ks) q h = go (is_key x.key q) refl (single_removed ks q h.1)
  where
    at : Bool → Type 0
    at b = AreSingle (if b then ks else x ∷ without_kept ks q)

    go : (b : Bool) → is_key x.key q ≡ b → AreSingle (without_kept ks q) → at (is_key x.key q)
    go true e rest = subst at (sym e) h.1
    go false e rest = subst at (sym e) (removed_not ks q x.key h.0, rest)

-- ---- a change that waits

pub put_own : (ks : List Kept) (k : Kept) (q : NodeKey) → is_key k.key q ≡ true → find_kept (with_kept ks k) q ≡ Some k
put_own [] k q h = grind (arith, h)
put_own (x ∷ ks) k q h = go (is_key x.key k.key) refl (put_own ks k q h)
  where
    go : (b : Bool) → is_key x.key k.key ≡ b → find_kept (with_kept ks k) q ≡ Some k → find_kept (with_kept (x ∷ ks) k) q ≡ Some k
    go true e rest = grind (arith, e, h)
    go false e rest = let other : is_key x.key q ≡ false = ap (is_key x.key) (sym (key_same k.key q h)) ∙ e in grind (arith, e, rest, other)

pub removed_own : (ks : List Kept) (q r : NodeKey) → AreSingle ks → is_key q r ≡ true → find_kept (without_kept ks q) r ≡ None
removed_own [] q r h is = refl
removed_own (x ∷ ks) q r h is = go (is_key x.key q) refl (removed_own ks q r h.1 is)
  where
    go : (b : Bool) → is_key x.key q ≡ b → find_kept (without_kept ks q) r ≡ None → find_kept (without_kept (x ∷ ks) q) r ≡ None
    go true e rest = let gone : find_kept ks r ≡ None = ap (find_kept ks) (sym (key_same x.key q e ∙ key_same q r is)) ∙ h.0 in grind (arith, e, gone)
    go false e rest = let other : is_key x.key r ≡ false = ap (is_key x.key) (sym (key_same q r is)) ∙ e in grind (arith, e, rest, other)

pub removed_else : (ks : List Kept) (q r : NodeKey) → is_key q r ≡ false → find_kept (without_kept ks q) r ≡ find_kept ks r
removed_else [] q r h = refl
removed_else (x ∷ ks) q r h = go (is_key x.key q) refl (removed_else ks q r h)
  where
    go : (b : Bool) → is_key x.key q ≡ b → find_kept (without_kept ks q) r ≡ find_kept ks r → find_kept (without_kept (x ∷ ks) q) r ≡ find_kept (x ∷ ks) r
    go true e rest = let other : is_key x.key r ≡ false = ap (λ (y : NodeKey). is_key y r) (key_same x.key q e) ∙ h in grind (arith, e, other)
    go false e rest = grind (arith, e, rest)
