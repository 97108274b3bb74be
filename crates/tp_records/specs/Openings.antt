-- How the text of a record on an association begins: with its code and one mark or two.
use Rattle.std.specs.Prelude.{ℕ, List, ◌∷◌, ◌++◌}
use Rattle.tp_names.specs.Bytes.{mark_bytes}
use Rattle.tp_names.specs.declared.identifiers.Mark.{Mark}

unfoldable pub opening : ℕ → Mark → List ℕ
opening code x = code ∷ mark_bytes x

unfoldable pub pair : ℕ → Mark → Mark → List ℕ
pair code x y = opening code x ++ mark_bytes y
