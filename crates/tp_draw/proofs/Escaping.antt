-- What is escaped stands in a picture as text alone.
use Rattle.std.proofs.Common.{◌≡◌, ℕ, ◌==◌, Bool, true, false, if◌then◌else◌, List, [], ◌∷◌, ◌++◌, refl, arith, codes}
use Rattle.std.proofs.lemmas.Bool.Decides.{nat_tests}
use Rattle.tp_draw.specs.Texts.{escaped, escaped_octet, is_printable}
use Rattle.tp_draw.specs.Escapes.{is_text}

-- an octet that stands for itself
itself : (c : ℕ) (rest : List ℕ) → (c == 34) ≡ false → (c == 38) ≡ false → (c == 60) ≡ false → (c == 62) ≡ false → is_printable c ≡ true → is_text rest ≡ true
    → is_text (c ∷ rest) ≡ true
itself c rest q a l g shown text = grind (arith, nat_tests)

one_octet : (c : ℕ) (rest : List ℕ) → is_text rest ≡ true → is_text (escaped_octet c ++ rest) ≡ true
one_octet c rest text = quote (c == 34) refl
  where
    last : (b : Bool) → is_printable c ≡ b → (c == 34) ≡ false → (c == 38) ≡ false → (c == 60) ≡ false → (c == 62) ≡ false → is_text ((if b then c ∷ [] else codes "?") ++ rest) ≡ true
    last true shown q a l g = itself c rest q a l g shown text
    last false shown q a l g = text

    greater : (b : Bool) → (c == 62) ≡ b → (c == 34) ≡ false → (c == 38) ≡ false → (c == 60) ≡ false
        → is_text ((if b then codes "&gt;" else if is_printable c then c ∷ [] else codes "?") ++ rest) ≡ true
    greater true is q a l = text
    greater false is q a l = last (is_printable c) refl q a l is

    less : (b : Bool) → (c == 60) ≡ b → (c == 34) ≡ false → (c == 38) ≡ false
        → is_text ((if b then codes "&lt;" else if c == 62 then codes "&gt;" else if is_printable c then c ∷ [] else codes "?") ++ rest) ≡ true
    less true is q a = text
    less false is q a = greater (c == 62) refl q a is

    ampersand : (b : Bool) → (c == 38) ≡ b → (c == 34) ≡ false
        → is_text ((if b then codes "&amp;" else if c == 60 then codes "&lt;" else if c == 62 then codes "&gt;" else if is_printable c then c ∷ [] else codes "?") ++ rest) ≡ true
    ampersand true is q = text
    ampersand false is q = less (c == 60) refl q is

    quote : (b : Bool) → (c == 34) ≡ b
        → is_text ((if b then codes "&quot;" else if c == 38 then codes "&amp;" else if c == 60 then codes "&lt;" else if c == 62 then codes "&gt;" else if is_printable c then c ∷ [] else codes "?") ++ rest) ≡ true
    quote true is = text
    quote false is = ampersand (c == 38) refl is

pub escaped_law : (xs : List ℕ) → is_text (escaped xs) ≡ true
escaped_law [] = refl
escaped_law (c ∷ cs) = one_octet c (escaped cs) (escaped_law cs)
