-- Lists that are taken from the front.
use Rattle.std.proofs.Common.{◌≡◌, ◌≤◌, ◌-◌, ℕ, zero, suc, List, [], ◌∷◌, ◌++◌, length, refl, ap, ◌∙◌, arith}
use Rattle.tp_model.specs.NodeTranscript.{taken}

pub taken_all : {A : Type 0} (xs : List A) → taken (length xs) xs ≡ xs
taken_all [] = refl
taken_all {A} (x ∷ xs) = ap (λ (l : List A). x ∷ l) (taken_all xs)

pub taken_front : {A : Type 0} (xs ys : List A) → taken (length xs) (xs ++ ys) ≡ xs
taken_front {A} [] ys = none ys
  where
    none : (ys : List A) → taken 0 ys ≡ []
    none [] = refl
    none (y ∷ ys) = refl
taken_front {A} (x ∷ xs) ys = ap (λ (l : List A). x ∷ l) (taken_front xs ys)

-- what is added at the end is not taken
pub taken_more : {A : Type 0} (k : ℕ) (xs ys : List A) → k ≤ length xs → taken k (xs ++ ys) ≡ taken k xs
taken_more {A} zero [] ys le = none ys
  where
    none : (ys : List A) → taken 0 ys ≡ []
    none [] = refl
    none (y ∷ ys) = refl
taken_more {A} (suc k) [] ys le = absurd (omega arith)
taken_more zero (x ∷ xs) ys le = refl
taken_more {A} (suc k) (x ∷ xs) ys le = ap (λ (l : List A). x ∷ l) (taken_more k xs ys (omega arith))

pub length_more : {A : Type 0} (xs : List A) (y : A) → length (xs ++ y ∷ []) ≡ suc (length xs)
length_more [] y = refl
length_more (x ∷ xs) y = ap suc (length_more xs y)

-- more than the first list is taken
pub taken_past : {A : Type 0} (n : ℕ) (xs ys : List A) → length xs ≤ n → taken n (xs ++ ys) ≡ xs ++ taken (n - length xs) ys
taken_past {A} n [] ys le = let e : n ≡ n - 0 = omega arith in ap (λ (m : ℕ). taken m ys) e
taken_past zero (x ∷ xs) ys le = absurd (omega arith)
taken_past {A} (suc n) (x ∷ xs) ys le =
    let e : n - length xs ≡ suc n - suc (length xs) = omega arith in
    ap (λ (l : List A). x ∷ l) (taken_past n xs ys (omega arith) ∙ ap (λ (m : ℕ). xs ++ taken m ys) e)
