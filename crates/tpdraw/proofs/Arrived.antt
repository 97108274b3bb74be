-- What comes of a source, piece by piece.
use Rattle.std.proofs.Common.{◌≡◌, ℕ, Option, List, [], ◌++◌, length, take, drop, ap, sym, ◌∙◌, arith, append_assoc, take_all, take-append-drop}
use Rattle.tpdraw.specs.Runs.{Gains}

pub came : (count : ℕ) (old new rest all : List ℕ) (left : Option (List ℕ)) → Gains count old new rest left → all ≡ old ++ rest → all ≡ new ++ drop count rest
came count old new rest all left g e =
    e
    ∙ ap (λ (t : List ℕ). old ++ t) (sym (take-append-drop count rest))
    ∙ sym (append_assoc old (take count rest) (drop count rest))
    ∙ ap (λ (t : List ℕ). t ++ drop count rest) (sym g.bytes)

pub ended : (count : ℕ) (old new rest all : List ℕ) (left : Option (List ℕ)) → Gains count old new rest left → count ≡ 0 → all ≡ old ++ rest → new ≡ all
ended count old new rest all left g none e =
    let empty : rest ≡ [] = g.at_end none in
    g.bytes ∙ ap (λ (t : List ℕ). old ++ t) (take_all count rest (omega (arith, ap length empty))) ∙ sym e
