-- Lines that were read, one after the other.
use Rattle.std.proofs.Common.{◌≡◌, ℕ, ◌&&◌, Bool, true, false, List, [], ◌∷◌, ◌++◌, map, refl, ap, sym, ◌∙◌, append_assoc, arith}
use Rattle.std.proofs.lemmas.List.{map-append}
use Rattle.tp_model.specs.declared.out_line.OutLine.{OutLine}
use Rattle.tp_model.specs.OutText.{out_text}
use Rattle.tp_transcript.specs.OutHasText.{out_has_text}
use Rattle.tpdraw.specs.Transcripts.{lines_in, have_text, IsNext}

pub one_more : (lines : List OutLine) (o : OutLine) (bytes rest text more : List ℕ) → map out_text lines ++ lines_in rest ≡ lines_in bytes → IsNext rest text more → out_text o ≡ text
    → map out_text (lines ++ o ∷ []) ++ lines_in more ≡ lines_in bytes
one_more lines o bytes rest text more so_far next is =
    ap (λ (t : List (List ℕ)). t ++ lines_in more) (map-append out_text lines (o ∷ []))
    ∙ append_assoc (map out_text lines) (out_text o ∷ []) (lines_in more)
    ∙ ap (λ (t : List ℕ). map out_text lines ++ (t ∷ lines_in more)) is
    ∙ ap (λ (t : List (List ℕ)). map out_text lines ++ t) (sym next.lines)
    ∙ so_far

both_true : (a b : Bool) → a ≡ true → b ≡ true → (a && b) ≡ true
both_true true b e f = f
both_true false b e f = e

left_true : (a b : Bool) → (a && b) ≡ true → a ≡ true
left_true true b e = refl
left_true false b e = e

right_true : (a b : Bool) → (a && b) ≡ true → b ≡ true
right_true true b e = e
right_true false b e = absurd (grind (arith, e))

pub good_more : (lines : List OutLine) (o : OutLine) → have_text lines ≡ true → out_has_text o ≡ true → have_text (lines ++ o ∷ []) ≡ true
good_more [] o good has = both_true (out_has_text o) true has refl
good_more (l ∷ ls) o good has =
    both_true (out_has_text l) (have_text (ls ++ o ∷ [])) (left_true (out_has_text l) (have_text ls) good)
    (good_more ls o (right_true (out_has_text l) (have_text ls) good) has)
