-- Words after words: what is put in two parts, with a space between them, is one text.
use Rattle.std.proofs.Common.{◌≡◌, ℕ, Bool, true, false, List, [], ◌∷◌, ◌++◌, refl, ap, ◌∙◌, append_assoc}
use Rattle.tp_model.specs.Words.{words}
use Rattle.tp_text_builder.specs.Written.{Written, Adds}
use Rattle.tp_text_builder.proofs.Added.{adds_then, adds_same}

abbrev pub has_word : List (List ℕ) → Bool
has_word [] = false
has_word (w ∷ ws) = true

words_before : (v : List ℕ) (vs ws : List (List ℕ)) → has_word ws ≡ true → words (v ∷ vs) ++ (32 ∷ words ws) ≡ words ((v ∷ vs) ++ ws)
words_before v vs [] has = absurd cc
words_before v [] (w ∷ ws) has = refl
words_before v (u ∷ us) (w ∷ ws) has =
    append_assoc v (32 ∷ words (u ∷ us)) (32 ∷ words (w ∷ ws))
    ∙ ap (λ (t : List ℕ). v ++ (32 ∷ t)) (words_before u us (w ∷ ws) refl)

-- the first words, a space, and the others
pub joined : (v : List ℕ) (vs ws : List (List ℕ)) → has_word ws ≡ true
    → {a b c d : Written} → Adds a (words (v ∷ vs)) b → Adds b (32 ∷ []) c → Adds c (words ws) d → Adds a (words ((v ∷ vs) ++ ws)) d
joined v vs ws has p q r = adds_same (adds_then p (adds_then q r)) (words_before v vs ws has)
