use Rattle.std.proofs.Common.{◌≡◌, ◌++◌, drop}
use Rattle.tp_draw.specs.Texts.{joined}
use Rattle.tp_draw.specs.Pieces.{piece_texts}
use Rattle.tp_draw.proofs.picture.Picture.put.Given as goal

abbrev pub invariant-loop-piece : goal.invariant-loop-piece
invariant-loop-piece l = l.self ++ joined (piece_texts (drop l.piece-index l.pieces)) ≡ l.fn.self ++ joined (piece_texts l.pieces)
