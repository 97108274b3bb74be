-- One more body after those that stand: what the log then opens to, and what its images open to.
use Rattle.std.proofs.Common.{◌≡◌, ◌⊎◌, inl, inr, ℕ, ◌+◌, Option, Some, None, List, [], ◌∷◌, ◌++◌, length, refl, sym, ap, ◌∙◌, arith}
use Rattle.tp_journal.specs.Log.{blocks, place_behind, StandsForEither}
use Rattle.tp_bound.specs.declared.store.Store.{Store}
use Rattle.tp_bound.specs.Stores.{empty, taken, Reading, Stands, Breaks, opened_from, opened, OpensTo}
use Rattle.tp_bound.proofs.Opening.{block_is}

-- what is read, by what the next body leads to
abbrev led : ℕ → List ℕ → List (List ℕ) → Option Store → Reading
led place body more o = elim o [ None ↦ Breaks place | Some t ↦ opened_from (place + 3 + length body) t more ]

opened_more_from : (place : ℕ) (s t u : Store) (bodies : List (List ℕ)) (body : List ℕ) (end : ℕ) → end ≡ place + length (blocks bodies) → opened_from place s bodies ≡ Stands t → taken end body t ≡ Some u
    → opened_from place s (bodies ++ body ∷ []) ≡ Stands u
opened_more_from place s t u [] body end at is takes =
    let same : s ≡ t = cc in
    let here : end ≡ place = omega arith in
    ap (led place body []) (ap (λ (x : Store). taken place body x) same ∙ ap (λ (n : ℕ). taken n body t) (sym here) ∙ takes)
opened_more_from place s t u (b ∷ bodies) body end at is takes =
    go (taken place b s) refl is (λ v. opened_more_from (place + 3 + length b) v t u bodies body end (omega (arith, block_is b bodies)))
  where
    go : (o : Option Store) → taken place b s ≡ o → led place b bodies o ≡ Stands t
        → ((v : Store) → opened_from (place + 3 + length b) v bodies ≡ Stands t → taken end body t ≡ Some u → opened_from (place + 3 + length b) v (bodies ++ body ∷ []) ≡ Stands u)
        → opened_from place s (b ∷ (bodies ++ body ∷ [])) ≡ Stands u
    go None e h later = absurd cc
    go (Some v) e h later = ap (led place b (bodies ++ body ∷ [])) e ∙ later v h takes

pub opened_more : (bodies : List (List ℕ)) (body : List ℕ) (t u : Store) (gate : ℕ) → gate ≡ place_behind bodies → opened bodies ≡ Stands t → taken gate body t ≡ Some u → opened (bodies ++ body ∷ []) ≡ Stands u
opened_more bodies body t u gate at is takes = opened_more_from 5 empty t u bodies body gate at is takes

-- an image that stands for the bodies from before or for one more opens to one of the two contents
pub opens_to_either : (bodies : List (List ℕ)) (body : List ℕ) (t u : Store) (file : List ℕ) → opened bodies ≡ Stands t → opened (bodies ++ body ∷ []) ≡ Stands u
    → StandsForEither bodies (bodies ++ body ∷ []) file → OpensTo t.content file ⊎ OpensTo u.content file
opens_to_either bodies body t u file before after (inl stands) = inl (bodies, stands, t, before, refl)
opens_to_either bodies body t u file before after (inr stands) = inr (bodies ++ body ∷ [], stands, u, after, refl)
