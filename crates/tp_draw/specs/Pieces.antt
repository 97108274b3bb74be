-- What each piece of a picture's text is as bytes.
use Rattle.std.specs.Prelude.{ℕ, List, [], ◌∷◌}
use Rattle.tp_model.specs.Words.{decimal}
use Rattle.tp_draw.specs.declared.piece.Piece.{Piece}
use Rattle.tp_draw.specs.Labels.{label}
use Rattle.tp_draw.specs.Texts.{cut, escaped, plain}
use Rattle.tp_draw.specs.Tones.{tone_name}

abbrev pub piece_text : Piece → List ℕ
piece_text (Piece.Text t) = t.now
piece_text (Piece.Number n) = decimal n
piece_text (Piece.Tone t) = tone_name t
piece_text (Piece.Label o) = label o.now
piece_text (Piece.Escaped t) = escaped t.now
piece_text (Piece.Cut t most) = cut most t.now
piece_text (Piece.Plain t) = plain t.now

abbrev pub piece_texts : List Piece → List (List ℕ)
piece_texts [] = []
piece_texts (p ∷ ps) = piece_text p ∷ piece_texts ps
