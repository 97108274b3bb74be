-- The names of the sixteen sites.
use Rattle.std.proofs.Common.{◌≡◌, ◌∙◌, ℕ, ◌+◌, ◌-◌, ◌/◌, ◌%◌, ◌<◌, ◌≤◌, ◌^◌, true, [], ◌∷◌, ◌++◌, refl, ap, sym, arith}
use Rattle.std.proofs.lemmas.Bool.{agree_below_at}
use Rattle.tp_names.specs.Bytes.{is_site_name}
use Rattle.tp_model.specs.Words.{decimal}
use Rattle.tp_model.specs.Generator.{site_name}
use Rattle.tp_text_builder.proofs.Decimals.{decimal_one, decimal_more}

abbrev place_of : ℕ → ℕ
place_of i = 1 + (i - 1) % 16

pub one_digit : (i : ℕ) → 1 + (i - 1) % 16 < 10 → 115 ∷ (48 + (1 + (i - 1) % 16) % 10) ∷ [] ≡ site_name i
one_digit i less =
    let same : (1 + (i - 1) % 16) % 10 ≡ 1 + (i - 1) % 16 = omega (arith, less) in
    ap (λ (d : ℕ). 115 ∷ (48 + d) ∷ []) same ∙ ap (λ t. 115 ∷ t) (sym (decimal_one (place_of i) less))

pub two_digits : (i : ℕ) → 10 ≤ 1 + (i - 1) % 16 → 115 ∷ 49 ∷ (48 + (1 + (i - 1) % 16) % 10) ∷ [] ≡ site_name i
two_digits i most =
    let small : place_of i < 2 ^ 64 = omega arith in
    let tens : place_of i / 10 ≡ 1 = omega (arith, most) in
    ap (λ t. 115 ∷ t)
    (sym
    (decimal_more (place_of i) small most ∙ ap (λ (k : ℕ). decimal k ++ (48 + place_of i % 10) ∷ []) tens))

pub one_is_name : (d : ℕ) → is_site_name (115 ∷ (48 + d % 10) ∷ []) ≡ true
one_is_name d = let small : d % 10 < 10 = omega arith in agree_below_at (λ k. is_site_name (115 ∷ (48 + k) ∷ [])) (λ _. true) 10 (d % 10) refl small

pub two_are_name : (d : ℕ) → is_site_name (115 ∷ 49 ∷ (48 + d % 10) ∷ []) ≡ true
two_are_name d = let small : d % 10 < 10 = omega arith in agree_below_at (λ k. is_site_name (115 ∷ 49 ∷ (48 + k) ∷ [])) (λ _. true) 10 (d % 10) refl small
