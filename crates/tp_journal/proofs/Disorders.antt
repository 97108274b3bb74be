-- A list is in order up to the first record that may not follow.
use Rattle.std.proofs.Common.{◌≡◌, Bool, true, false, List, [], ◌∷◌, ◌++◌, refl, sym, ap, ◌∙◌, append_assoc, append-nil}
use Rattle.std.specs.Prelude.{◌&&◌}
use Rattle.std.proofs.lemmas.Bool.{false≢true, and_left, and_right}
use Rattle.tp_logrec.specs.declared.record.LogRec.{LogRec}
use Rattle.tp_logrec.specs.Order.{follows, follow_from, all_follow}

front_true : (x y : Bool) → (x && y) ≡ true → x ≡ true
front_true true y e = refl
front_true false y e = e

rest_true : (x y : Bool) → (x && y) ≡ true → y ≡ true
rest_true true y e = e
rest_true false y e = absurd (false≢true e)

grows_from : (before xs : List LogRec) (r : LogRec) → follow_from before xs ≡ true → follows (before ++ xs) r ≡ true → follow_from before (xs ++ r ∷ []) ≡ true
grows_from before [] r order next = ap (λ b. b && true) (ap (λ l. follows l r) (sym (append-nil before)) ∙ next)
grows_from before (x ∷ xs) r order next =
    ap (λ b. b && follow_from (before ++ x ∷ []) (xs ++ r ∷ [])) (front_true (follows before x) (follow_from (before ++ x ∷ []) xs) order)
    ∙ grows_from (before ++ x ∷ []) xs r (rest_true (follows before x) (follow_from (before ++ x ∷ []) xs) order) (ap (λ l. follows l r) (append_assoc before (x ∷ []) xs) ∙ next)

pub in_order_with : (xs : List LogRec) (r : LogRec) → all_follow xs ≡ true → follows xs r ≡ true → all_follow (xs ++ r ∷ []) ≡ true
in_order_with xs r order next = grows_from [] xs r order next

breaks_from : (before xs : List LogRec) (r : LogRec) (ys : List LogRec) → follows (before ++ xs) r ≡ false → follow_from before (xs ++ r ∷ ys) ≡ false
breaks_from before [] r ys broken =
    and_left (follows before r) (follow_from (before ++ r ∷ []) ys) (ap (λ l. follows l r) (sym (append-nil before)) ∙ broken)
breaks_from before (x ∷ xs) r ys broken =
    and_right (follows before x) (follow_from (before ++ x ∷ []) (xs ++ r ∷ ys)) (breaks_from (before ++ x ∷ []) xs r ys (ap (λ l. follows l r) (append_assoc before (x ∷ []) xs) ∙ broken))

pub out_of_order_at : (xs : List LogRec) (r : LogRec) (ys : List LogRec) → follows xs r ≡ false → all_follow (xs ++ r ∷ ys) ≡ false
out_of_order_at xs r ys broken = breaks_from [] xs r ys broken
