-- What it is for a text to stand in an SVG file as text alone.
use Rattle.std.specs.Prelude.{ℕ, ◌==◌, ◌&&◌, ◌||◌, not, Bool, true, false, List, [], ◌∷◌, codes}
use Rattle.tp_draw.specs.Texts.{is_printable}

abbrev pub starts_with : List ℕ → List ℕ → Bool
starts_with [] xs = true
starts_with (p ∷ ps) [] = false
starts_with (p ∷ ps) (x ∷ xs) = (p == x) && starts_with ps xs

abbrev pub is_entity : List ℕ → Bool
is_entity xs = starts_with (codes "&amp;") xs || starts_with (codes "&lt;") xs || starts_with (codes "&gt;") xs || starts_with (codes "&quot;") xs

-- neither `<` nor `>` nor `"`
abbrev pub is_no_markup : ℕ → Bool
is_no_markup c = is_printable c && not (c == 60) && not (c == 62) && not (c == 34)

-- no octet of it is markup, and each `&` begins an entity
abbrev pub is_text : List ℕ → Bool
is_text [] = true
is_text (c ∷ cs) = is_no_markup c && (not (c == 38) || is_entity (c ∷ cs)) && is_text cs
