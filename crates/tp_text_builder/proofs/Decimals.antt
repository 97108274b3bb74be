-- That numbers are written as the definitions say: by their last two digits, and those before.
use Rattle.std.proofs.Common.{◌≡◌, ℕ, zero, suc, ◌+◌, ◌*◌, ◌/◌, ◌%◌, ◌^◌, ◌<◌, ◌≤◌, ◌==◌, Bool, true, List, [], ◌∷◌, ◌++◌, slice_index, refl, ap, sym, ◌∙◌, arith, eqb-true, append_assoc}
use Rattle.std.proofs.lemmas.Bool.{agree_below_at}
use Rattle.std.proofs.lemmas.Bool.Decides.{nat_tests}
use Rattle.std.proofs.lemmas.Fmt.{PrependsLastDigit, decimal_from_prepends, length-decimal-le_succ}
use Rattle.std.proofs.lemmas.List.{append-nil}
use Rattle.std.specs.Fmt.{decimal as std_decimal}
use Rattle.tp_model.specs.Words.{digits_before, decimal}
use Rattle.tp_text_builder.specs.declared.numbers.TheConstants.{PAIRS}

-- the same with one more for the first number, which is the count of digits at most
abbrev prepended : ℕ → ℕ → List ℕ → List ℕ
prepended zero n text = text
prepended (suc k) n text = digits_before k n text

prepends_one : (k n : ℕ) (text : List ℕ) → n < 10 → digits_before k n text ≡ (48 + n) ∷ text
prepends_one zero n text small = grind (arith, nat_tests)
prepends_one (suc k) n text small = grind (arith, nat_tests)

prepends_more : (k n : ℕ) (text : List ℕ) → 10 ≤ n → digits_before k n text ≡ prepended k (n / 10) ((48 + n % 10) ∷ text)
prepends_more zero n text large = refl
prepends_more (suc k) n text large = grind (arith, nat_tests)

prepends : PrependsLastDigit prepended
prepends = record { one = prepends_one; more = prepends_more }

pub decimal_same : (n : ℕ) → n < 2 ^ 64 → std_decimal n ≡ decimal n
decimal_same n small =
    sym (decimal_from_prepends prepended prepends (suc n) n [] small (omega (arith, length-decimal-le_succ n small)) ∙ append-nil (std_decimal n))

-- digit by digit
pub decimal_one : (n : ℕ) → n < 10 → decimal n ≡ (48 + n) ∷ []
decimal_one n small = prepends_one n n [] small

pub decimal_more : (n : ℕ) → n < 2 ^ 64 → 10 ≤ n → decimal n ≡ decimal (n / 10) ++ (48 + n % 10) ∷ []
decimal_more n small large =
    let front : n / 10 < 2 ^ 64 = omega arith in
    prepends_more n n [] large
    ∙ decimal_from_prepends prepended prepends n (n / 10) ((48 + n % 10) ∷ []) front (omega (arith, length-decimal-le_succ (n / 10) front))
    ∙ ap (λ (t : List ℕ). t ++ (48 + n % 10) ∷ []) (decimal_same (n / 10) front)

pub decimal_two : (n : ℕ) → 10 ≤ n → n < 100 → decimal n ≡ (48 + n / 10) ∷ (48 + n % 10) ∷ []
decimal_two n large small =
    decimal_more n (omega (arith, small)) large ∙ ap (λ (t : List ℕ). t ++ (48 + n % 10) ∷ []) (decimal_one (n / 10) (omega (arith, small)))

-- the last two digits, and those before
pub decimal_by_pair : (n : ℕ) → n < 2 ^ 64 → 100 ≤ n → decimal n ≡ decimal (n / 100) ++ (48 + n % 100 / 10) ∷ (48 + n % 100 % 10) ∷ []
decimal_by_pair n small large =
    let front : n / 10 / 10 ≡ n / 100 = omega arith in
    let tens : n / 10 % 10 ≡ n % 100 / 10 = omega arith in
    let ones : n % 10 ≡ n % 100 % 10 = omega arith in
    decimal_more n small (omega arith)
    ∙ ap (λ (t : List ℕ). t ++ (48 + n % 10) ∷ []) (decimal_more (n / 10) (omega arith) (omega arith))
    ∙ append_assoc (decimal (n / 10 / 10)) ((48 + n / 10 % 10) ∷ []) ((48 + n % 10) ∷ [])
    ∙ ap (λ (d : ℕ). decimal (n / 10 / 10) ++ d ∷ (48 + n % 10) ∷ []) (ap (λ (d : ℕ). 48 + d) tens)
    ∙ ap (λ (d : ℕ). decimal (n / 10 / 10) ++ (48 + n % 100 / 10) ∷ d ∷ []) (ap (λ (d : ℕ). 48 + d) ones)
    ∙ ap (λ (m : ℕ). decimal m ++ (48 + n % 100 / 10) ∷ (48 + n % 100 % 10) ∷ []) front

-- the digits as they are found, two and two
pub two_found : (n : ℕ) → 10 ≤ n → n < 100 → (p : ℕ × ℕ) → p ≡ (48 + n % 100 / 10, 48 + n % 100 % 10) → p.0 ∷ p.1 ∷ [] ≡ decimal n
two_found n large small p last =
    let same : n % 100 ≡ n = omega (arith, small) in
    rw (last, decimal_two n large small) (ap (λ (m : ℕ). (48 + m / 10) ∷ (48 + m % 10) ∷ []) same)

pub three_found : (n : ℕ) → 100 ≤ n → n < 1000 → (p : ℕ × ℕ) → p ≡ (48 + n % 100 / 10, 48 + n % 100 % 10) → (48 + n / 100) ∷ p.0 ∷ p.1 ∷ [] ≡ decimal n
three_found n large small p last =
    let one : decimal (n / 100) ≡ (48 + n / 100) ∷ [] = decimal_one (n / 100) (omega (arith, small)) in
    rw last (sym (decimal_by_pair n (omega (arith, small)) large ∙ ap (λ (t : List ℕ). t ++ (48 + n % 100 / 10) ∷ (48 + n % 100 % 10) ∷ []) one))

pub four_found : (n : ℕ) → 1000 ≤ n → n < 10000 → (q p : ℕ × ℕ) → q ≡ (48 + n / 100 / 10, 48 + n / 100 % 10) → p ≡ (48 + n % 100 / 10, 48 + n % 100 % 10)
    → q.0 ∷ q.1 ∷ p.0 ∷ p.1 ∷ [] ≡ decimal n
four_found n large small q p first last =
    let front : decimal (n / 100) ≡ (48 + n / 100 / 10) ∷ (48 + n / 100 % 10) ∷ [] = decimal_two (n / 100) (omega (arith, large)) (omega (arith, small)) in
    rw (first, last) (sym (decimal_by_pair n (omega (arith, small)) (omega (arith, large)) ∙ ap (λ (t : List ℕ). t ++ (48 + n % 100 / 10) ∷ (48 + n % 100 % 10) ∷ []) front))

pub more_found : (n : ℕ) → n < 2 ^ 64 → 100 ≤ n → (p : ℕ × ℕ) → p ≡ (48 + n % 100 / 10, 48 + n % 100 % 10) → decimal (n / 100) ++ p.0 ∷ p.1 ∷ [] ≡ decimal n
more_found n small large p last = rw last (sym (decimal_by_pair n small large))

-- pairs of digits from a table
abbrev tens_agree : ℕ → Bool
tens_agree p = slice_index PAIRS (p * 2) == 48 + p / 10

abbrev ones_agree : ℕ → Bool
ones_agree p = slice_index PAIRS (p * 2 + 1) == 48 + p % 10

pub pair_tens : (p : ℕ) → p < 100 → slice_index PAIRS (p * 2) ≡ 48 + p / 10
pair_tens p small = eqb-true _ _ (agree_below_at tens_agree (λ _. true) 100 p refl small)

pub pair_ones : (p : ℕ) → p < 100 → slice_index PAIRS (p * 2 + 1) ≡ 48 + p % 10
pair_ones p small = eqb-true _ _ (agree_below_at ones_agree (λ _. true) 100 p refl small)
