-- Prefixes of what is written.
use Rattle.std.proofs.Common.{◌++◌, ℕ, List, [], refl, sym, ap, ◌∙◌, append_assoc}
use Rattle.tp_streams.specs.Written.{IsPrefix}

-- nothing, and all of it
pub prefix_none : (ys : List ℕ) → IsPrefix [] ys
prefix_none ys = (ys, refl)

-- of what comes after
pub prefix_after : (xs ys part : List ℕ) → IsPrefix part ys → IsPrefix (xs ++ part) (xs ++ ys)
prefix_after xs ys part h = (h.0, ap (λ zs. xs ++ zs) h.1 ∙ sym (append_assoc xs part h.0))

pub prefix_more : (xs ys zs : List ℕ) → IsPrefix xs ys → IsPrefix xs (ys ++ zs)
prefix_more xs ys zs h = (h.0 ++ zs, ap (λ v. v ++ zs) h.1 ∙ append_assoc xs h.0 zs)

pub prefix_trans : (xs ys zs : List ℕ) → IsPrefix xs ys → IsPrefix ys zs → IsPrefix xs zs
prefix_trans xs ys zs h k = (h.0 ++ k.0, k.1 ∙ ap (λ v. v ++ k.0) h.1 ∙ append_assoc xs h.0 k.0)
