-- Two names are the same exactly where the sixteen bytes that each is kept as are one number.
use Rattle.std.proofs.Common.{◌≡◌, ◌<◌, ◌+◌, ◌*◌, ◌-◌, ◌==◌, ℕ, zero, suc, Bool, true, false, ◌&&◌, List, [], ◌∷◌, ◌++◌, length, take, replicate, refl, sym, ap, ◌∙◌, arith, IsTrue}
use Rattle.std.proofs.lemmas.List.{take-append-drop}
use Rattle.std.proofs.lemmas.Bool.{and_parts, eq-eqb, eqb-true, true≢false}
use Rattle.std.proofs.lemmas.Bool.Decides.{nat_tests}
use Rattle.std.specs.Prelude.{nat_le}
use Rattle.std.specs.Int.{w128, from_le_bytes}
use Rattle.tp_names.specs.Bytes.{is_site_byte, is_site_name, all_bytes}
use Rattle.tp_names.specs.Names.{IsName, inside_of, inside_of-view}
use Rattle.tp_names.specs.Same.{is_name}
use Rattle.tp_names.specs.declared.site_name.SiteName.TheInside.{Inside}
use Rattle.tp_names.proofs.Sames.{name_same, name_self}

-- ---- bytes as one number

abbrev number : List ℕ → ℕ
number [] = 0
number (x ∷ xs) = x + 256 * number xs

abbrev all_small : List ℕ → Type 0
all_small [] = Unit {0}
all_small (x ∷ xs) = (x < 256) × all_small xs

number_same : (xs ys : List ℕ) → length xs ≡ length ys → all_small xs → all_small ys → number xs ≡ number ys → xs ≡ ys
number_same [] [] l a b e = refl
number_same [] (y ∷ ys) l a b e = absurd (omega arith)
number_same (x ∷ xs) [] l a b e = absurd (omega arith)
number_same (x ∷ xs) (y ∷ ys) l a b e =
    let p = a.0 in
    let q = b.0 in
    let head : x ≡ y = omega (arith, p, q, e) in
    let tail : number xs ≡ number ys = omega (arith, p, q, e) in
    ap (λ z. z ∷ xs) head ∙ ap (λ zs. y ∷ zs) (number_same xs ys (omega (arith, l)) a.1 b.1 tail)

is_number : (bs : List ℕ) → length bs ≡ 16 → from_le_bytes w128 bs ≡ number bs
is_number (a ∷ b ∷ c ∷ d ∷ e ∷ f ∷ g ∷ h ∷ i ∷ j ∷ k ∷ l ∷ m ∷ n ∷ o ∷ p ∷ []) long = omega arith
is_number bs long = absurd (omega arith)

-- ---- the bytes that a name is kept as

small_site : (b : ℕ) → is_site_byte b ≡ true → b < 256
small_site b e = grind (arith, nat_tests, e)

site_not_zero : (b : ℕ) → is_site_byte b ≡ true → b ≡ 0 → ⊥
site_not_zero b e z = grind (arith, nat_tests, e, z)

small_zeros : (n : ℕ) → all_small (replicate n 0)
small_zeros zero = tt
small_zeros (suc n) = (omega arith, small_zeros n)

small_padded : (v : List ℕ) (n : ℕ) → all_bytes is_site_byte v ≡ true → all_small (v ++ replicate n 0)
small_padded [] n e = small_zeros n
small_padded (x ∷ v) n e = let p = and_parts (is_site_byte x) (all_bytes is_site_byte v) e in (small_site x p.0, small_padded v n p.1)

-- where zeros follow, the bytes in front end at the first of them
same_front : (v w : List ℕ) (m n : ℕ) → all_bytes is_site_byte v ≡ true → all_bytes is_site_byte w ≡ true → v ++ replicate m 0 ≡ w ++ replicate n 0 → v ≡ w
same_front [] [] m n hv hw e = refl
same_front [] (y ∷ w) zero n hv hw e = absurd cc
same_front [] (y ∷ w) (suc m) n hv hw e =
    let z : y ≡ 0 = cc in
    absurd (site_not_zero y (and_parts (is_site_byte y) (all_bytes is_site_byte w) hw).0 z)
same_front (x ∷ v) [] m zero hv hw e = absurd cc
same_front (x ∷ v) [] m (suc n) hv hw e =
    let z : x ≡ 0 = cc in
    absurd (site_not_zero x (and_parts (is_site_byte x) (all_bytes is_site_byte v) hv).0 z)
same_front (x ∷ v) (y ∷ w) m n hv hw e =
    let heads : x ≡ y = cc in
    let tails : v ++ replicate m 0 ≡ w ++ replicate n 0 = cc in
    ap (λ z. z ∷ v) heads ∙ ap (λ zs. y ∷ zs) (same_front v w m n (and_parts (is_site_byte x) (all_bytes is_site_byte v) hv).1 (and_parts (is_site_byte y) (all_bytes is_site_byte w) hw).1 tails)

-- what an invariant says of a name
record Kept (s : Inside) : Type 0 where
  pub name : List ℕ
  pub is : take s.len s.bytes ≡ name
  pub zeros : ℕ
  pub bytes : s.bytes ≡ name ++ replicate zeros 0
  pub letters : all_bytes is_site_byte name ≡ true
  pub long : length s.bytes ≡ 16

letters_of : (v : List ℕ) → IsTrue (is_site_name v) → all_bytes is_site_byte v ≡ true
letters_of v e = go (length v) (all_bytes is_site_byte v) e
  where
    go : (n : ℕ) (t : Bool) → IsTrue ((nat_le 1 n && nat_le n 16) && t) → t ≡ true
    go n t e = grind (arith, nat_tests, e)

kept : (s : Inside) → IsName s → Kept s
kept s h =
    let cut = h.0 in
    record {
      name = take s.len s.bytes;
      is = refl;
      zeros = 16 - s.len;
      bytes = sym (take-append-drop s.len s.bytes) ∙ ap (λ w. take s.len s.bytes ++ w) cut.2;
      letters = letters_of (take s.len s.bytes) h.1;
      long = cut.1;
    }

-- one number, one name
name_of_number : (s t : Inside) → IsName s → IsName t → from_le_bytes w128 s.bytes ≡ from_le_bytes w128 t.bytes → take s.len s.bytes ≡ take t.len t.bytes
name_of_number s t hs ht e =
    let a = kept s hs in
    let b = kept t ht in
    let small_a : all_small s.bytes = rw a.bytes (small_padded a.name a.zeros a.letters) in
    let small_b : all_small t.bytes = rw b.bytes (small_padded b.name b.zeros b.letters) in
    let numbers : number s.bytes ≡ number t.bytes = sym (is_number s.bytes a.long) ∙ e ∙ is_number t.bytes b.long in
    let bytes : s.bytes ≡ t.bytes = number_same s.bytes t.bytes (a.long ∙ sym b.long) small_a small_b numbers in
    a.is ∙ same_front a.name b.name a.zeros b.zeros a.letters b.letters (sym a.bytes ∙ bytes ∙ b.bytes) ∙ sym b.is

-- one name, one number
number_of_name : (s t : Inside) → IsName s → IsName t → take s.len s.bytes ≡ take t.len t.bytes → from_le_bytes w128 s.bytes ≡ from_le_bytes w128 t.bytes
number_of_name s t hs ht e = ap (λ (i : Inside). from_le_bytes w128 i.bytes) (sym (inside_of-view s hs) ∙ ap inside_of e ∙ inside_of-view t ht)

pub names_compared : (s t : Inside) → IsName s → IsName t → (from_le_bytes w128 s.bytes == from_le_bytes w128 t.bytes) ≡ is_name (take s.len s.bytes) (take t.len t.bytes)
names_compared s t hs ht = go (from_le_bytes w128 s.bytes) (from_le_bytes w128 t.bytes) (take s.len s.bytes) (take t.len t.bytes) (name_of_number s t hs ht) (number_of_name s t hs ht)
  where
    go : (m n : ℕ) (v w : List ℕ) → (m ≡ n → v ≡ w) → (v ≡ w → m ≡ n) → (m == n) ≡ is_name v w
    go m n v w there back = by (m == n) (is_name v w) refl refl
      where
        by : (p q : Bool) → (m == n) ≡ p → is_name v w ≡ q → p ≡ q
        by true true hp hq = refl
        by false false hp hq = refl
        by true false hp hq =
            let same : v ≡ w = there (eqb-true m n hp) in
            let self : is_name v w ≡ true = ap (is_name v) (sym same) ∙ name_self v in
            absurd (true≢false (sym self ∙ hq))
        by false true hp hq =
            let same : m ≡ n = back (name_same v w hq) in
            absurd (true≢false (sym (eq-eqb m n same) ∙ hp))
