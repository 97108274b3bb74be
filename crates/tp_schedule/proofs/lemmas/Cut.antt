-- A line cut at its spaces: the words of what is left are those after the word that was cut off.
use Rattle.std.proofs.Common.{◌≡◌, ◌≢◌, ℕ, zero, suc, ◌+◌, ◌-◌, ◌<◌, ◌≤◌, List, [], ◌∷◌, length, get_or, take, drop, refl, ap, sym, ◌∙◌, arith, length-drop}
use Rattle.std.proofs.lemmas.List.{take_all, drop_all, get_or-drop}
use Rattle.std.proofs.lemmas.Bool.Decides.{nat_tests}
use Rattle.tp_model.specs.LineReading.{pieces, onto_first, not_empty, words_in}

pub spaces_skipped : (bs : List ℕ) (i : ℕ) → i ≤ length bs → ((k : ℕ) → k < i → get_or bs k 0 ≡ 32) → words_in bs ≡ words_in (drop i bs)
spaces_skipped bs zero within all = refl
spaces_skipped [] (suc i) within all = absurd (omega arith)
spaces_skipped (b ∷ bs) (suc i) within all =
    let space : b ≡ 32 = all 0 (omega arith) in
    let rest : words_in bs ≡ words_in (drop i bs) = spaces_skipped bs i (omega arith) (λ k below. all (suc k) (omega arith)) in
    rw space rest

abbrev behind : List (List ℕ) → List (List ℕ)
behind [] = []
behind (p ∷ ps) = ps

other_piece : (b : ℕ) (bs : List ℕ) → b ≢ 32 → pieces (b ∷ bs) ≡ onto_first b (pieces bs)
other_piece b bs other = grind (arith, nat_tests)

cut_pieces : (bs : List ℕ) (i : ℕ) → i ≤ length bs → ((k : ℕ) → k < i → get_or bs k 0 ≢ 32) → (i < length bs → get_or bs i 0 ≡ 32)
    → (pieces bs ≡ take i bs ∷ behind (pieces (drop i bs))) × (not_empty (behind (pieces (drop i bs))) ≡ words_in (drop i bs))
cut_pieces [] zero within none at = (refl, refl)
cut_pieces [] (suc i) within none at = absurd (omega arith)
cut_pieces (b ∷ bs) zero within none at =
    let space : b ≡ 32 = at (omega arith) in
    rw space (refl, refl)
cut_pieces (b ∷ bs) (suc i) within none at =
    let other : b ≢ 32 = none 0 (omega arith) in
    let rest : (pieces bs ≡ take i bs ∷ behind (pieces (drop i bs))) × (not_empty (behind (pieces (drop i bs))) ≡ words_in (drop i bs)) =
    cut_pieces bs i (omega arith) (λ k below. none (suc k) (omega arith)) (λ below. at (omega arith)) in
    (other_piece b bs other ∙ ap (onto_first b) rest.0, rest.1)

pub word_cut : (bs : List ℕ) (i : ℕ) → i ≤ length bs → 0 < i → ((k : ℕ) → k < i → get_or bs k 0 ≢ 32) → (i < length bs → get_or bs i 0 ≡ 32)
    → words_in bs ≡ take i bs ∷ words_in (drop i bs)
word_cut [] i within some none at = absurd (omega arith)
word_cut (b ∷ bs) zero within some none at = absurd (omega arith)
word_cut (b ∷ bs) (suc i) within some none at =
    let both = cut_pieces (b ∷ bs) (suc i) within none at in
    ap not_empty both.0 ∙ ap (λ (ws : List (List ℕ)). (b ∷ take i bs) ∷ ws) both.1

-- what a range to the end takes
pub to_the_end : (bs : List ℕ) (i : ℕ) → take (length bs - i) (drop i bs) ≡ drop i bs
to_the_end bs i = take_all (length bs - i) (drop i bs) (omega (arith, length-drop i bs))

pub no_word_left : (bs : List ℕ) (i : ℕ) → i ≤ length bs → ((k : ℕ) → k < i → get_or bs k 0 ≡ 32) → length bs ≤ i → words_in bs ≡ []
no_word_left bs i within all ends =
    spaces_skipped bs i within all ∙ ap words_in (drop_all i bs ends)

pub word_behind : (bs s : List ℕ) (start end : ℕ) → s ≡ drop start bs → start < length bs → ((k : ℕ) → k < start → get_or bs k 0 ≡ 32) → get_or bs start 0 ≢ 32
    → end ≤ length s → ((k : ℕ) → k < end → get_or s k 0 ≢ 32) → (end < length s → get_or s end 0 ≡ 32)
    → words_in bs ≡ take end s ∷ words_in (take (length s - end) (drop end s))
word_behind bs s start zero is some all other within none at =
    let size : length s ≡ length bs - start = ap length is ∙ length-drop start bs in
    let first : get_or s 0 0 ≡ get_or bs (start + 0) 0 = ap (λ (t : List ℕ). get_or t 0 0) is ∙ get_or-drop start bs 0 0 in
    let space : get_or s 0 0 ≡ 32 = at (omega arith) in
    let place : start + 0 ≡ start = omega arith in
    absurd (other (ap (λ (k : ℕ). get_or bs k 0) (sym place) ∙ sym first ∙ space))
word_behind bs s start (suc end) is some all other within none at =
    spaces_skipped bs start (omega arith) all ∙ ap words_in (sym is)
    ∙ word_cut s (suc end) within (omega arith) none at
    ∙ ap (λ (t : List ℕ). take (suc end) s ∷ words_in t) (sym (to_the_end s (suc end)))
