-- A copy of a table shows what the table shows.
use Rattle.std.proofs.Common.{◌≡◌, ℕ, List, [], ◌∷◌, refl, ap, ◌∙◌}
use Rattle.std.specs.List.{AllZip}
use Rattle.tp_bound.specs.Content.{Content}
use Rattle.tp_bound.proofs.Tables.{Bytes, content_of}

-- whatever a copy of bytes is, if it has their elements
pub copied : (C : Bytes → Bytes → Type 0) → ((x y : Bytes) → C x y → y.items ≡ x.items) → (es new : List (Bytes × Bytes)) → AllZip (λ p q. C p.0 q.0 × C p.1 q.1) es new → content_of new ≡ content_of es
copied C same [] [] all = refl
copied C same [] (n ∷ new) all = absurd all
copied C same (e ∷ es) [] all = absurd all
copied C same (e ∷ es) (n ∷ new) all =
    ap (λ (k : List ℕ). (k, n.1.items) ∷ content_of new) (same e.0 n.0 all.0.0) ∙ ap (λ (v : List ℕ). (e.0.items, v) ∷ content_of new) (same e.1 n.1 all.0.1)
    ∙ ap (λ (rest : Content). (e.0.items, e.1.items) ∷ rest) (copied C same es new all.1)
