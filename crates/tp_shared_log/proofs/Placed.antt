-- Records are told by their places.
use Rattle.std.proofs.Common.{◌≡◌, ℕ, suc, ◌+◌, Bool, List, [], ◌∷◌, ◌++◌, length, refl, sym, ap, ◌∙◌}
use Rattle.tp_logrec.specs.declared.record.LogRec.{LogRec}
use Rattle.tp_journal.specs.declared.receipts.Receipt.{Receipt}
use Rattle.tp_journal.specs.Records.{receipts_from, placed, first_place, text}

abbrev recs : List Receipt → List LogRec
recs [] = []
recs (r ∷ rs) = r.rec ∷ recs rs

recs-push : (rs : List Receipt) (r : Receipt) → recs (rs ++ r ∷ []) ≡ recs rs ++ r.rec ∷ []
recs-push [] r = refl
recs-push (q ∷ rs) r = ap (λ l. q.rec ∷ l) (recs-push rs r)

recs_of_receipts : (wide : Bool) (rs : List LogRec) (at : ℕ) → recs (receipts_from at wide rs) ≡ rs
recs_of_receipts wide [] at = refl
recs_of_receipts wide (r ∷ rs) at = ap (λ l. r ∷ l) (recs_of_receipts wide rs (at + 3 + length (text wide r)))

recs_of_placed : (wide : Bool) (rs : List LogRec) → recs (placed wide rs) ≡ rs
recs_of_placed wide rs = recs_of_receipts wide rs (first_place wide)

many : (wide : Bool) (rs : List LogRec) (at : ℕ) → length (receipts_from at wide rs) ≡ length rs
many wide [] at = refl
many wide (r ∷ rs) at = ap suc (many wide rs (at + 3 + length (text wide r)))

pub length-placed : (wide : Bool) (rs : List LogRec) → length (placed wide rs) ≡ length rs
length-placed wide rs = many wide rs (first_place wide)

-- lists with the same receipts are one, whatever their versions
pub placed_same : (v w : Bool) (xs ys : List LogRec) → placed v xs ≡ placed w ys → xs ≡ ys
placed_same v w xs ys same = sym (recs_of_placed v xs) ∙ ap recs same ∙ recs_of_placed w ys

pub placed_more : (v w : Bool) (xs ys : List LogRec) (r : Receipt) → placed v xs ≡ placed w ys ++ r ∷ [] → xs ≡ ys ++ r.rec ∷ []
placed_more v w xs ys r same =
    sym (recs_of_placed v xs) ∙ ap recs same ∙ recs-push (placed w ys) r ∙ ap (λ l. l ++ r.rec ∷ []) (recs_of_placed w ys)
