-- The keys of a store as text: a line for each, in their order.
use Rattle.std.specs.Prelude.{ℕ, List, [], ◌∷◌, ◌++◌}
use Rattle.hex.specs.Hex.{encode_lower}
use Rattle.tp_bound.specs.Content.{Content}

-- two digits for each byte, and `-` for no byte
abbrev pub value_text : List ℕ → List ℕ
value_text [] = 45 ∷ []
value_text (b ∷ bytes) = encode_lower (b ∷ bytes)

-- the key and the value in hexadecimal, a space between them, and the end of the line
abbrev pub key_line : List ℕ → List ℕ → List ℕ
key_line key value = encode_lower key ++ 32 ∷ value_text value ++ 10 ∷ []

abbrev pub key_lines : Content → List ℕ
key_lines [] = []
key_lines (e ∷ es) = key_line e.0 e.1 ++ key_lines es
