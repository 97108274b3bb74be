-- What stands first goes on standing there.
use Rattle.std.proofs.Common.{◌≡◌, ℕ, List, [], ◌∷◌, ◌++◌, length, refl, ap, ◌∙◌, append_assoc}
use Rattle.std.proofs.lemmas.List.{take_at}
use Rattle.tp_names.specs.Writing.{Keeps}

-- bytes that are kept stand before some more
pub kept_front : (old new : List ℕ) → Keeps old new → (more : List ℕ) × (new ≡ old ++ more)
kept_front [] new kept = (new, refl)
kept_front (x ∷ old) [] kept = absurd cc
kept_front (x ∷ old) (y ∷ new) kept =
    let rest : Keeps old new = cc in
    let head : y ≡ x = cc in
    let p = kept_front old new rest in
    let tail : new ≡ old ++ p.0 = p.1 in
    (p.0, ap (λ (z : ℕ). z ∷ new) head ∙ ap (λ (zs : List ℕ). x ∷ zs) tail)

pub keeps_front : (old more : List ℕ) → Keeps old (old ++ more)
keeps_front old more = take_at old more (length old) refl

-- bytes after a code
pub behind_code : (code : ℕ) (old coded new text : List ℕ) → coded ≡ old ++ code ∷ [] → new ≡ coded ++ text → new ≡ old ++ (code ∷ text)
behind_code code old coded new text first second = second ∙ ap (λ (w : List ℕ). w ++ text) first ∙ append_assoc old (code ∷ []) text
