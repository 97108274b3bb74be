-- Octets, units and numbers, one after the other.
use Rattle.std.proofs.Common.{◌≡◌, ◌≢◌, ℕ, zero, suc, ◌+◌, ◌-◌, ◌<◌, ◌≤◌, ◌==◌, if◌then◌else◌, List, [], ◌∷◌, ◌++◌, length, get_or, take, drop, refl, ap, sym, ◌∙◌, arith, add-one, drop-cons}
use Rattle.std.proofs.lemmas.Bool.Decides.{nat_tests}
use Rattle.std.proofs.lemmas.List.{take_all}
use Rattle.tp_model.specs.Words.{decimal, hex}
use Rattle.tp_model.specs.OutText.{numbers_word}

pub hex_next : (xs : List ℕ) (i : ℕ) → i < length xs → hex (get_or xs i 0 ∷ []) ++ hex (drop (i + 1) xs) ≡ hex (drop i xs)
hex_next xs i within =
    let one : drop i xs ≡ get_or xs i 0 ∷ drop (i + 1) xs = rw (add-one, drop-cons xs i 0) in
    ap hex (sym one)

pub hex_over : (xs : List ℕ) (i : ℕ) → length xs ≤ i → [] ≡ hex (drop i xs)
hex_over [] zero over = refl
hex_over (x ∷ xs) zero over = absurd (omega arith)
hex_over [] (suc i) over = refl
hex_over (x ∷ xs) (suc i) over = hex_over xs i (omega arith)

pub no_numbers : (ns : List ℕ) → length ns < 1 → [] ≡ numbers_word ns
no_numbers [] none = refl
no_numbers (n ∷ ns) none = absurd (omega arith)

-- the first number, a comma, and the others
pub numbers_more : (ns : List ℕ) (n : ℕ) → 2 ≤ length ns → n ≡ get_or ns 0 0 → decimal n ++ (44 ∷ numbers_word (take (length ns - 1) (drop 1 ns))) ≡ numbers_word ns
numbers_more [] n some is = absurd (omega arith)
numbers_more (a ∷ []) n some is = absurd (omega arith)
numbers_more (a ∷ b ∷ ms) n some is =
    let same : n ≡ a = is in
    ap (λ (k : ℕ). decimal k ++ (44 ∷ numbers_word (take (length (a ∷ b ∷ ms) - 1) (b ∷ ms)))) same
    ∙ ap (λ (us : List ℕ). decimal a ++ (44 ∷ numbers_word us)) (take_all (length (a ∷ b ∷ ms) - 1) (b ∷ ms) (omega arith))

pub unit_absent : (n letter : ℕ) → n ≢ 1 → [] ≡ (if n == 1 then letter ∷ [] else [])
unit_absent n letter is = grind (arith, nat_tests)
