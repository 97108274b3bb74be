-- Parts of a word, and lists of parts.
use Rattle.std.proofs.Common.{◌≡◌, ◌≢◌, ℕ, zero, suc, ◌+◌, ◌-◌, ◌*◌, ◌<◌, ◌==◌, Bool, true, false, Option, Some, None, List, [], ◌∷◌, length, get_or, take, drop, refl, ap, sym, ◌∙◌, arith, add-one}
use Rattle.std.specs.Prelude.{option_map}
use Rattle.std.proofs.Math.Seq.{drop-cons}
use Rattle.std.proofs.lemmas.Bool.Decides.{nat_tests}
use Rattle.tp_model.specs.LineReading.{is_digit, value_from, onto_first}
use Rattle.tp_transcript.specs.OutWords.{cut, parts, if_long}

-- ---- a cut

cut_here : (d b : ℕ) (bs : List ℕ) → b ≡ d → cut d (b ∷ bs) ≡ Some ([], bs)
cut_here d b bs is = rw is (at_once d bs)
  where
    at_once : (e : ℕ) (xs : List ℕ) → cut e (e ∷ xs) ≡ Some ([], xs)
    at_once e xs = grind (arith, nat_tests)

cut_later : (d b : ℕ) (bs : List ℕ) → b ≢ d → cut d (b ∷ bs) ≡ option_map (λ (p : List ℕ × List ℕ). (b ∷ p.0, p.1)) (cut d bs)
cut_later d b bs other = grind (arith, nat_tests)

pub cut_found : (d : ℕ) (bs : List ℕ) (i j : ℕ) → j ≡ suc i → i < length bs → ((k : ℕ) → k < i → get_or bs k 0 ≢ d) → get_or bs i 0 ≡ d
    → cut d bs ≡ Some (take i bs, drop j bs)
cut_found d bs i j next within none at = found bs i within none at ∙ ap (λ (k : ℕ). Some (take i bs, drop k bs)) (sym next)
  where
    found : (xs : List ℕ) (n : ℕ) → n < length xs → ((k : ℕ) → k < n → get_or xs k 0 ≢ d) → get_or xs n 0 ≡ d → cut d xs ≡ Some (take n xs, drop (suc n) xs)
    found [] n within none at = absurd (omega arith)
    found (x ∷ xs) zero within none at = cut_here d x xs at
    found (x ∷ xs) (suc n) within none at =
        cut_later d x xs (none 0 (omega arith))
        ∙ ap (option_map (λ (p : List ℕ × List ℕ). (x ∷ p.0, p.1))) (found xs n (omega arith) (λ k below. none (suc k) (omega arith)) at)

pub cut_none : (d : ℕ) (bs : List ℕ) → ((k : ℕ) → k < length bs → get_or bs k 0 ≢ d) → cut d bs ≡ None
cut_none d [] none = refl
cut_none d (b ∷ bs) none =
    cut_later d b bs (none 0 (omega arith))
    ∙ ap (option_map (λ (p : List ℕ × List ℕ). (b ∷ p.0, p.1))) (cut_none d bs (λ k below. none (suc k) (omega arith)))

-- ---- numerals

value_more : (v d : ℕ) (ds : List ℕ) → is_digit d ≡ true → value_from v (d ∷ ds) ≡ value_from (v * 10 + (d - 48)) ds
value_more v d ds digit = grind arith

not_digit : (v d : ℕ) (ds : List ℕ) → is_digit d ≡ false → value_from v (d ∷ ds) ≡ None
not_digit v d ds other = grind arith

pub long_step : (ds : List ℕ) (i v : ℕ) → i < length ds → is_digit (get_or ds i 0) ≡ true
    → value_from (v * 10 + (get_or ds i 0 - 48)) (drop (i + 1) ds) ≡ value_from v (drop i ds)
long_step ds i v within digit =
    let at : drop i ds ≡ get_or ds i 0 ∷ drop (i + 1) ds = rw add-one (drop-cons ds i 0 within) in
    sym (value_more v (get_or ds i 0) (drop (i + 1) ds) digit) ∙ sym (ap (λ (t : List ℕ). value_from v t) at)

pub long_other : (ds : List ℕ) (i v : ℕ) → i < length ds → is_digit (get_or ds i 0) ≡ false → value_from v (drop i ds) ≡ None
long_other ds i v within other =
    let at : drop i ds ≡ get_or ds i 0 ∷ drop (i + 1) ds = rw add-one (drop-cons ds i 0 within) in
    ap (λ (t : List ℕ). value_from v t) at ∙ not_digit v (get_or ds i 0) (drop (i + 1) ds) other

too_large : (n : ℕ) → 18446744073709551615 < n → if_long (Some n) ≡ None
too_large n large = grind (arith, nat_tests)

-- a value only grows
pub stays_large : (ds : List ℕ) (v : ℕ) → 18446744073709551615 < v → if_long (value_from v ds) ≡ None
stays_large [] v large = too_large v large
stays_large (d ∷ ds) v large = go (is_digit d) refl (stays_large ds (v * 10 + (d - 48)) (omega arith))
  where
    go : (t : Bool) → is_digit d ≡ t → if_long (value_from (v * 10 + (d - 48)) ds) ≡ None → if_long (value_from v (d ∷ ds)) ≡ None
    go true is more = ap if_long (value_more v d ds is) ∙ more
    go false is more = ap if_long (not_digit v d ds is)

-- ---- parts

part_here : (d b : ℕ) (bs : List ℕ) → (b == d) ≡ true → parts d (b ∷ bs) ≡ [] ∷ parts d bs
part_here d b bs is = grind (arith, nat_tests)

part_later : (d b : ℕ) (bs : List ℕ) → (b == d) ≡ false → parts d (b ∷ bs) ≡ onto_first b (parts d bs)
part_later d b bs other = grind (arith, nat_tests)

abbrev pub parts_by : List ℕ → Option (List ℕ × List ℕ) → ℕ → List (List ℕ)
parts_by bs None d = bs ∷ []
parts_by bs (Some p) d = p.0 ∷ parts d p.1

pub parts_cut : (d : ℕ) (bs : List ℕ) → parts d bs ≡ parts_by bs (cut d bs) d
parts_cut d [] = refl
parts_cut d (b ∷ bs) = go (b == d) (cut d bs) (parts_cut d bs)
  where
    go : (t : Bool) (o : Option (List ℕ × List ℕ)) → parts d bs ≡ parts_by bs o d
        → elim t as (λ _. List (List ℕ)) [ true ↦ [] ∷ parts d bs | false ↦ onto_first b (parts d bs) ]
        ≡ parts_by (b ∷ bs) (elim t as (λ _. Option (List ℕ × List ℕ)) [ true ↦ Some ([], bs) | false ↦ option_map (λ (p : List ℕ × List ℕ). (b ∷ p.0, p.1)) o ]) d
    go true o is = refl
    go false None is = ap (onto_first b) is
    go false (Some p) is = ap (onto_first b) is
