-- A log with the first of some records.
use Rattle.std.proofs.Common.{◌≡◌, ◌≤◌, ◌+◌, inl, inr, ℕ, Bool, List, [], ◌∷◌, ◌++◌, length, take, sym, ap, ◌∙◌, subst, arith, length-append}
use Rattle.std.proofs.lemmas.List.{take-append-le}
use Rattle.std.proofs.lemmas.Grind.{common_steps}
use Rattle.tp_logrec.specs.declared.record.LogRec.{LogRec}
use Rattle.tp_journal.specs.Log.{StandsFor, StandsForEither}
use Rattle.tp_journal.specs.Records.{bodies_of}
use Rattle.tp_shared_log.specs.Images.{StandsForFirst}

take_all : (xs : List LogRec) → take (length xs) xs ≡ xs
take_all xs = grind (arith, common_steps)

pub take_whole : (n : ℕ) (xs : List LogRec) → n ≡ length xs → take n xs ≡ xs
take_whole n xs is = ap (λ (k : ℕ). take k xs) is ∙ take_all xs

module _ (least : ℕ) (wide : Bool) (list : List LogRec) where
  -- all of them
  pub whole : (file : List ℕ) → least ≤ length list → StandsFor file (bodies_of wide list) → StandsForFirst least wide list file
  whole file few stands = (length list, few, omega arith, subst (λ l. StandsFor file (bodies_of wide l)) (sym (take_all list)) stands)

  -- so many of them, or all
  pub either : (n : ℕ) → least ≤ n → n ≤ length list → (file : List ℕ) → StandsForEither (bodies_of wide (take n list)) (bodies_of wide list) file → StandsForFirst least wide list file
  either n from to file (inl some) = (n, from, to, some)
  either n from to file (inr all) = whole file (omega (arith, from, to)) all

  -- of one record more
  pub more : (rec : LogRec) (file : List ℕ) → StandsForFirst least wide list file → StandsForFirst least wide (list ++ rec ∷ []) file
  more rec file (n, from, to, stands) =
      let same : take n (list ++ rec ∷ []) ≡ take n list = take-append-le n list (rec ∷ []) to in
      (n, from, omega (arith, to, length-append list (rec ∷ [])), subst (λ l. StandsFor file (bodies_of wide l)) (sym same) stands)
