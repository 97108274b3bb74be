-- A log that is written anew, record by record.
use Rattle.std.proofs.Common.{◌≡◌, ◌<◌, ℕ, zero, suc, ◌+◌, Bool, List, [], ◌∷◌, ◌++◌, length, take, get_or, refl, sym, ap, ◌∙◌, arith}
use Rattle.std.specs.List.{AllByRecursion}
use Rattle.tp_logrec.specs.declared.record.LogRec.{LogRec}
use Rattle.tp_journal.specs.Log.{blocks, counted}
use Rattle.tp_journal.specs.Records.{text, bodies_of}
use Rattle.tp_journal.proofs.Appending.{blocks-push}
use Rattle.tp_journal.proofs.RecordBodies.{bodies-push}

-- each of a list, at its place
pub all_at : (P : LogRec → Type 0) (rs : List LogRec) (i : ℕ) (d : LogRec) → i < length rs → AllByRecursion P rs → P (get_or rs i d)
all_at P [] i d below all = absurd (omega arith)
all_at P (r ∷ rs) zero d below all = all.0
all_at P (r ∷ rs) (suc i) d below all = all_at P rs i d (omega arith) all.1

pub one_more_taken : (rs : List LogRec) (i : ℕ) (d : LogRec) → i < length rs → take (i + 1) rs ≡ take i rs ++ get_or rs i d ∷ []
one_more_taken [] i d below = absurd (omega arith)
one_more_taken (r ∷ rs) zero d below = refl
one_more_taken (r ∷ rs) (suc i) d below =
    let e : suc i + 1 ≡ suc (i + 1) = omega arith in
    rw e (ap (λ l. r ∷ l) (one_more_taken rs i d (omega arith)))

module _ (wide : Bool) (rs : List LogRec) (i : ℕ) (rec : LogRec) (below : i < length rs) (is : rec ≡ get_or rs i rec) where
  pub taken_more : take (i + 1) rs ≡ take i rs ++ rec ∷ []
  taken_more = one_more_taken rs i rec below ∙ ap (λ r. take i rs ++ r ∷ []) (sym is)

  pub shelf_more : (old new : List (List ℕ)) (body : List ℕ) → old ≡ bodies_of wide (take i rs) → body ≡ text wide rec → new ≡ old ++ body ∷ [] → new ≡ bodies_of wide (take (i + 1) rs)
  shelf_more old new body so_far same longer =
      longer ∙ ap (λ b. old ++ b ∷ []) same ∙ ap (λ l. l ++ text wide rec ∷ []) so_far ∙ sym (bodies-push wide (take i rs) rec) ∙ ap (λ l. bodies_of wide l) (sym taken_more)

  pub text_more : (old new body : List ℕ) → old ≡ blocks (bodies_of wide (take i rs)) → body ≡ text wide rec → new ≡ old ++ (1 ∷ counted body) → new ≡ blocks (bodies_of wide (take (i + 1) rs))
  text_more old new body so_far same longer =
      longer ∙ ap (λ l. l ++ (1 ∷ counted body)) so_far ∙ ap (λ b. blocks (bodies_of wide (take i rs)) ++ (1 ∷ counted b)) same
      ∙ sym (blocks-push (bodies_of wide (take i rs)) (text wide rec)) ∙ ap blocks (sym (bodies-push wide (take i rs) rec)) ∙ ap (λ l. blocks (bodies_of wide l)) (sym taken_more)
