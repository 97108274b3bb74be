-- A byte has a bit where its conjunction with that bit is not zero. Computed over all bytes.
use Rattle.std.proofs.Common.{◌≡◌, ℕ, zero, suc, ◌<◌, ◌^◌, ◌==◌, Bool, true, false, not, refl, arith, IsTrue, bit_and, ◌∙◌, inl, inr, ap, ◌||◌, List, [], ◌∷◌}
use Rattle.std.specs.List.{list_any}
use Rattle.std.proofs.lemmas.Bool.{cases_eq, eqb-true}
use Rattle.tp_units.specs.Units.{has_bit, is_one_bit}

abbrev all_below : ℕ → (ℕ → Bool) → Bool
all_below zero f = true
all_below (suc n) f = elim (f n) [ true ↦ all_below n f | false ↦ false ]

is_true : {b : Bool} → IsTrue b → b ≡ true
is_true h = grind arith

below : (n : ℕ) (f : ℕ → Bool) (k : ℕ) → all_below n f ≡ true → k < n → f k ≡ true
below zero f k h lt = absurd (omega arith)
below (suc n) f k h lt = go (f n) refl h (below n f k)
  where
    go : (b : Bool) → f n ≡ b → elim b as (λ _. Bool) [ true ↦ all_below n f | false ↦ false ] ≡ true → (all_below n f ≡ true → k < n → f k ≡ true) → f k ≡ true
    go true here rest earlier = elim (cases_eq k n) [ inl e ↦ ap f e ∙ here | inr e ↦ earlier rest (omega arith) ]
    go false here rest earlier = absurd cc

abbrev are_same : Bool → Bool → Bool
are_same true b = b
are_same false b = not b

same : (a b : Bool) → are_same a b ≡ true → a ≡ b
same true b h = grind arith
same false true h = absurd cc
same false false h = refl

abbrev agrees : ℕ → ℕ → Bool
agrees bit u = are_same (not (bit_and u bit == 0)) (has_bit u bit)

agree_at : (bit : ℕ) → all_below 256 (agrees bit) ≡ true → (u : ℕ) → u < 256 → not (bit_and u bit == 0) ≡ has_bit u bit
agree_at bit h u lt = same _ _ (below 256 (agrees bit) u h lt)

abbrev EachAgrees : ℕ → List ℕ → Type 0
EachAgrees u [] = Unit {0}
EachAgrees u (b ∷ bits) = (not (bit_and u b == 0) ≡ has_bit u b) × EachAgrees u bits

one_of : (bits : List ℕ) (u bit : ℕ) → EachAgrees u bits → list_any (λ b. bit == b) bits ≡ true → not (bit_and u bit == 0) ≡ has_bit u bit
one_of [] u bit each found = absurd cc
one_of (b ∷ bits) u bit each found = go (bit == b) refl found (one_of bits u bit each.1)
  where
    go : (t : Bool) → (bit == b) ≡ t → (t || list_any (λ b'. bit == b') bits) ≡ true → (list_any (λ b'. bit == b') bits ≡ true → not (bit_and u bit == 0) ≡ has_bit u bit) → not (bit_and u bit == 0) ≡ has_bit u bit
    go true here rest later = let e : bit ≡ b = eqb-true bit b here in rw e each.0
    go false here rest later = later rest

pub conjunction_is_bit : (u bit : ℕ) → u < 2 ^ 8 → IsTrue (is_one_bit bit) → not (bit_and u bit == 0) ≡ has_bit u bit
conjunction_is_bit u bit lt one =
    let at : (b : ℕ) → all_below 256 (agrees b) ≡ true → not (bit_and u b == 0) ≡ has_bit u b = λ b h. agree_at b h u lt in
    one_of (1 ∷ 2 ∷ 4 ∷ 8 ∷ 16 ∷ 32 ∷ 64 ∷ 128 ∷ []) u bit (at 1 refl, (at 2 refl, (at 4 refl, (at 8 refl, (at 16 refl, (at 32 refl, (at 64 refl, (at 128 refl, tt)))))))) (is_true one)
