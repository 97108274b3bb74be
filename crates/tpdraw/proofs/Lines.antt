-- The first line of bytes, and what stands after it.
use Rattle.std.proofs.Common.{◌≡◌, ◌≢◌, ℕ, zero, suc, ◌+◌, ◌-◌, ◌<◌, ◌==◌, Bool, true, false, List, [], ◌∷◌, length, get_or, take, drop, refl, ap, subst, ◌∙◌, arith, eqb-true, length-drop}
use Rattle.std.proofs.lemmas.Bool.Decides.{nat_tests}
use Rattle.std.proofs.lemmas.Grind.{common_steps}
use Rattle.tp_model.specs.LineReading.{onto_first}
use Rattle.tpdraw.specs.Transcripts.{lines_in, IsNext, HasNone, IsFirstFeed}

not_feed : (b : ℕ) → (b == 10) ≡ false → b ≢ 10
not_feed b is e = grind (arith, nat_tests)

at_feed : (b : ℕ) (bs : List ℕ) → b ≡ 10 → lines_in (b ∷ bs) ≡ [] ∷ lines_in bs
at_feed b bs e = go (b == 10) refl
  where
    go : (x : Bool) → (b == 10) ≡ x → (elim x as (λ _. List (List ℕ)) [ true ↦ [] ∷ lines_in bs | false ↦ onto_first b (lines_in bs) ]) ≡ [] ∷ lines_in bs
    go true is = refl
    go false is = absurd (not_feed b is e)

in_line : (b : ℕ) (bs : List ℕ) → b ≢ 10 → lines_in (b ∷ bs) ≡ onto_first b (lines_in bs)
in_line b bs ne = go (b == 10) refl
  where
    go : (x : Bool) → (b == 10) ≡ x → (elim x as (λ _. List (List ℕ)) [ true ↦ [] ∷ lines_in bs | false ↦ onto_first b (lines_in bs) ]) ≡ onto_first b (lines_in bs)
    go true is = absurd (ne (eqb-true b 10 is))
    go false is = refl

first_line : (bs : List ℕ) (at : ℕ) → at < length bs → get_or bs at 0 ≡ 10 → ((k : ℕ) → k < at → get_or bs k 0 ≢ 10)
    → lines_in bs ≡ take at bs ∷ lines_in (drop (suc at) bs)
first_line [] at lt is before = absurd (omega arith)
first_line (b ∷ bs) zero lt is before = at_feed b bs is
first_line (b ∷ bs) (suc at) lt is before =
    in_line b bs (before 0 (omega arith))
    ∙ ap (onto_first b) (first_line bs at (omega arith) is (λ k below. before (suc k) (omega arith)))

last_line : (b : ℕ) (bs : List ℕ) → ((k : ℕ) → k < length (b ∷ bs) → get_or (b ∷ bs) k 0 ≢ 10) → lines_in (b ∷ bs) ≡ (b ∷ bs) ∷ []
last_line b [] none = in_line b [] (none 0 (omega arith))
last_line b (c ∷ cs) none = in_line b (c ∷ cs) (none 0 (omega arith)) ∙ ap (onto_first b) (last_line c cs (λ k below. none (suc k) (omega arith)))

pub cut_first : (bs : List ℕ) (at : ℕ) → IsFirstFeed bs at → IsNext bs (take at bs) (drop (at + 1) bs)
cut_first bs at f =
    let same : suc at ≡ at + 1 = omega arith in
    subst (λ (k : ℕ). IsNext bs (take at bs) (drop k bs)) same (record {
      lines = first_line bs at f.within f.feed f.before;
      shorter = omega (arith, length-drop (suc at) bs, f.within);
    })

pub cut_last : (bs : List ℕ) → 0 < length bs → HasNone bs → IsNext bs bs []
cut_last [] some none = absurd (omega arith)
cut_last (b ∷ bs) some none = record { lines = last_line b bs none; shorter = omega arith }

pub nothing_left : (bs : List ℕ) → take (length bs - length bs) (drop (length bs) bs) ≡ []
nothing_left bs = grind (arith, common_steps)

pub some_bytes : (bs : List ℕ) (r : Bool) → r ≡ (length bs == 0) → r ≡ false → 0 < length bs
some_bytes bs r is no_bytes = grind (arith, nat_tests)
