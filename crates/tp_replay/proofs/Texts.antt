-- The text of lines one after the other.
use Rattle.std.proofs.Common.{◌≡◌, ◌<◌, ◌+◌, ◌++◌, ℕ, zero, suc, List, [], ◌∷◌, length, take, refl, ap, sym, ◌∙◌, append_assoc, arith}
use Rattle.std.specs.Prelude.{slice_index_or}
use Rattle.tp_model.specs.declared.out_line.OutLine.{OutLine}
use Rattle.tp_model.specs.OutText.{out_text, out_texts}

pub texts_more : (xs : List OutLine) (i : ℕ) (d : OutLine) → i < length xs
    → out_texts (take (i + 1) xs) ≡ out_texts (take i xs) ++ (out_text (slice_index_or xs i d) ++ 10 ∷ [])
texts_more [] i d h = absurd (omega arith)
texts_more (x ∷ xs) zero d h = refl
texts_more (x ∷ xs) (suc i) d h =
    let e : suc i + 1 ≡ suc (i + 1) = omega arith in
    rw e
    (ap (λ t. out_text x ++ 10 ∷ t) (texts_more xs i d (omega arith))
    ∙ sym (append_assoc (out_text x) (10 ∷ out_texts (take i xs)) (out_text (slice_index_or xs i d) ++ 10 ∷ [])))
