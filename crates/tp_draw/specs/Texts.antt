-- Text that is put together, and text that stands in a picture as text whatever its octets are.
use Rattle.std.specs.Prelude.{ℕ, ◌==◌, ◌&&◌, nat_le, Bool, if◌then◌else◌, List, [], ◌∷◌, ◌++◌, length, take, codes}

-- one after the other
abbrev pub joined : List (List ℕ) → List ℕ
joined [] = []
joined (t ∷ ts) = t ++ joined ts

-- ---- in an SVG file

-- from a space to a tilde
abbrev pub is_printable : ℕ → Bool
is_printable c = nat_le 32 c && nat_le c 126

-- a `?` stands for what is not printable
abbrev pub escaped_octet : ℕ → List ℕ
escaped_octet c =
    if c == 34 then codes "&quot;"
    else if c == 38 then codes "&amp;"
    else if c == 60 then codes "&lt;"
    else if c == 62 then codes "&gt;"
    else if is_printable c then c ∷ []
    else codes "?"

abbrev pub escaped : List ℕ → List ℕ
escaped [] = []
escaped (c ∷ cs) = escaped_octet c ++ escaped cs

-- so many octets of it; two dots stand for what is left out
abbrev pub cut : ℕ → List ℕ → List ℕ
cut most text = if nat_le (length text) most then escaped text else escaped (take most text) ++ codes ".."

-- ---- in Mermaid text, where `#` begins the number of an octet, `;` ends a statement, `%` may begin a directive and `<` a tag

abbrev pub plain_octet : ℕ → List ℕ
plain_octet c =
    if c == 35 then codes "#35;"
    else if c == 37 then codes "#37;"
    else if c == 38 then codes "#38;"
    else if c == 59 then codes "#59;"
    else if c == 60 then codes "#60;"
    else if is_printable c then c ∷ []
    else codes "?"

abbrev pub plain : List ℕ → List ℕ
plain [] = []
plain (c ∷ cs) = plain_octet c ++ plain cs
