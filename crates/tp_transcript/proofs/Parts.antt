-- A text in parts: what is put after a name and a space, or after words.
use Rattle.std.proofs.Common.{◌≡◌, ℕ, true, List, [], ◌∷◌, ◌++◌, refl, ap, ◌∙◌, append_assoc}
use Rattle.tp_model.specs.Words.{words}
use Rattle.tp_text_builder.specs.Written.{Written, Adds}
use Rattle.tp_text_builder.proofs.Added.{adds_then, adds_same}
use Rattle.tp_text_builder.proofs.Joined.{has_word, joined}

-- what is put after three parts
pub three_then : (w s told x : List ℕ) → {a b c : Written} → Adds a (w ++ (s ++ told)) b → Adds b x c → Adds a (w ++ (s ++ (told ++ x))) c
three_then w s told x p q = adds_same (adds_then p q) (append_assoc w (s ++ told) x ∙ ap (λ (t : List ℕ). w ++ t) (append_assoc s told x))

-- words after a word and a name
pub named_words : (w s : List ℕ) (ws : List (List ℕ)) → has_word ws ≡ true
    → {a b c : Written} → Adds a (w ++ (s ++ (32 ∷ []))) b → Adds b (words ws) c → Adds a (w ++ words (s ∷ ws)) c
named_words w s [] has p q = absurd cc
named_words w s (v ∷ vs) has p q = three_then w s (32 ∷ []) (words (v ∷ vs)) p q

-- one word after words
pub next_word : (v : List ℕ) (vs : List (List ℕ)) (x : List ℕ) → {a b c d : Written} → Adds a (words (v ∷ vs)) b → Adds b (32 ∷ []) c → Adds c x d → Adds a (words ((v ∷ vs) ++ (x ∷ []))) d
next_word v vs x p q r = joined v vs (x ∷ []) refl p q r
