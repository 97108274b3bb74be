-- A text on its way out.
use Rattle.std.proofs.Common.{◌≡◌, ℕ, zero, suc, ◌+◌, ◌<◌, Option, Some, Result, Ok, Err, subst, List, [], ◌∷◌, ◌++◌, length, take, slice_index_or, refl, sym, ap, ◌∙◌, arith, append_assoc}
use Rattle.std.specs.Prelude.{slice_get, IfOk, OnOk, OnErr}
use Rattle.std.proofs.lemmas.List.{append-nil}
use Rattle.tp_logrec.specs.declared.record.LogRec.{LogRec}
use Rattle.tp_logrec.specs.LogText.{Placed}
use Rattle.tp_model.specs.LogCommands.{placed_text, placed_texts}
use Rattle.tp_journal.specs.declared.receipts.Receipt.{Receipt}
use Rattle.tp_streams.specs.Written.{WritesPrefix}
use Rattle.tp_log_tools.specs.Readings.{as_placed}
use Rattle.tp_log_tools.specs.Output.{IsUnderWay}

-- nothing is written yet, and nothing is to be
pub set_out : (before : List ℕ) (written : Option (List ℕ)) → written ≡ Some before → IsUnderWay before [] [] written
set_out before written is = record { part = []; parts = refl; wrote = is ∙ ap (λ l. Some l) (sym (append-nil before)) }

-- all that was pending is written
pub gone_out : (before text pending : List ℕ) (old new : Option (List ℕ)) → IsUnderWay before text pending old
    → ((front : List ℕ) → old ≡ Some front → new ≡ Some (front ++ pending)) → new ≡ Some (before ++ text)
gone_out before text pending old new way all =
    all (before ++ way.part) way.wrote ∙ ap (λ l. Some l) (append_assoc before way.part pending ∙ ap (λ l. before ++ l) (sym way.parts))

take_none : (xs : List ℕ) → take 0 xs ≡ []
take_none [] = refl
take_none (x ∷ xs) = refl

pub emptied : (before text pending rest : List ℕ) (old new : Option (List ℕ)) → IsUnderWay before text pending old
    → ((front : List ℕ) → old ≡ Some front → new ≡ Some (front ++ pending)) → rest ≡ take 0 pending → IsUnderWay before text rest new
emptied before text pending rest old new way all none = record {
  part = text;
  parts = sym (append-nil text) ∙ ap (λ l. text ++ l) (sym (none ∙ take_none pending));
  wrote = gone_out before text pending old new way all;
}

-- a prefix of what was pending is written
pub partly_out : (before text pending : List ℕ) (old new : Option (List ℕ)) → IsUnderWay before text pending old
    → ((front : List ℕ) → old ≡ Some front → WritesPrefix front pending new) → WritesPrefix before text new
partly_out before text pending old new way some =
    let x = some (before ++ way.part) way.wrote in (
      way.part ++ x.0,
      (x.1.0, way.parts ∙ ap (λ l. way.part ++ l) x.1.1 ∙ sym (append_assoc way.part x.0 x.1.0)),
      x.2 ∙ ap (λ l. Some l) (append_assoc before way.part x.0),
    )

-- what was written is a prefix of the text, and of a longer one
pub so_far : (before text pending more : List ℕ) (written : Option (List ℕ)) → IsUnderWay before text pending written → WritesPrefix before (text ++ more) written
so_far before text pending more written way =
    (way.part, (pending ++ more, ap (λ l. l ++ more) way.parts ∙ append_assoc way.part pending more), way.wrote)

pub longer : (before text more : List ℕ) (new : Option (List ℕ)) → WritesPrefix before text new → WritesPrefix before (text ++ more) new
longer before text more new x = (x.0, (x.1.0 ++ more, ap (λ l. l ++ more) x.1.1 ∙ append_assoc x.0 x.1.0 more), x.2)

-- a line more is pending
pub line_more : (before text pending line rest : List ℕ) (written : Option (List ℕ)) → IsUnderWay before text pending written → rest ≡ pending ++ line → IsUnderWay before (text ++ line) rest written
line_more before text pending line rest written way is = record {
  part = way.part;
  parts = ap (λ l. l ++ line) way.parts ∙ append_assoc way.part pending line ∙ ap (λ l. way.part ++ l) (sym is);
  wrote = way.wrote;
}

-- ---- the lines of the first so many

abbrev pub lines : List Placed → ℕ → List ℕ
lines ps i = placed_texts (take i ps)

pub no_lines : (ps : List Placed) → lines ps 0 ≡ []
no_lines [] = refl
no_lines (p ∷ ps) = refl

pub lines_more : (ps : List Placed) (i : ℕ) (p : Placed) → slice_get ps i ≡ Some p → lines ps (i + 1) ≡ lines ps i ++ placed_text p
lines_more [] i p is = absurd cc
lines_more (q ∷ ps) zero p is = let same : q ≡ p = cc in ap (λ l. placed_text q ++ l) (no_lines ps) ∙ append-nil (placed_text q) ∙ ap placed_text same
lines_more (q ∷ ps) (suc i) p is =
    let e : suc i + 1 ≡ suc (i + 1) = omega arith in
    ap (lines (q ∷ ps)) e ∙ ap (λ l. placed_text q ++ l) (lines_more ps i p is) ∙ sym (append_assoc (placed_text q) (lines ps i) (placed_text p))

pub lines_all : (ps : List Placed) (n : ℕ) → n ≡ length ps → lines ps n ≡ placed_texts ps
lines_all [] zero is = refl
lines_all [] (suc n) is = absurd (omega (arith, is))
lines_all (p ∷ ps) zero is = absurd (omega (arith, is))
lines_all (p ∷ ps) (suc n) is = ap (λ l. placed_text p ++ l) (lines_all ps n (omega (arith, is)))

-- what stands after them
lines_within : (ps : List Placed) (i : ℕ) → (more : List ℕ) × (placed_texts ps ≡ lines ps i ++ more)
lines_within [] zero = ([], refl)
lines_within [] (suc i) = ([], refl)
lines_within (p ∷ ps) zero = (placed_texts (p ∷ ps), refl)
lines_within (p ∷ ps) (suc i) =
    let x = lines_within ps i in
    (x.0, ap (λ l. placed_text p ++ l) x.1 ∙ sym (append_assoc (placed_text p) (lines ps i) x.0))

module _ (ps : List Placed) (i : ℕ) (p : Placed) (there : slice_get ps i ≡ Some p) (before : List ℕ) where
  pub next_line : (pending : List ℕ) (written : Option (List ℕ)) → IsUnderWay before (lines ps i ++ placed_text p) pending written → IsUnderWay before (lines ps (i + 1)) pending written
  next_line pending written way = subst (λ t. IsUnderWay before t pending written) (sym (lines_more ps i p there)) way

  pub cut_short : (written : Option (List ℕ)) → WritesPrefix before (lines ps i ++ placed_text p) written → WritesPrefix before (placed_texts ps) written
  cut_short written some =
      let w = lines_within ps (i + 1) in
      subst (λ t. WritesPrefix before t written) (sym (w.1 ∙ ap (λ l. l ++ w.0) (lines_more ps i p there))) (longer before (lines ps i ++ placed_text p) w.0 written some)

-- ---- what a keeper tells

pub placed_length : (rs : List Receipt) → length (as_placed rs) ≡ length rs
placed_length [] = refl
placed_length (r ∷ rs) = ap suc (placed_length rs)

abbrev pub at_place : ℕ → LogRec → Placed
at_place place rec = record { place = place; rec = rec }

pub receipt_at : (rs : List Receipt) (i place : ℕ) (rec : LogRec) → i < length rs → ((d : Receipt) → place ≡ (slice_index_or rs i d).place) → ((d : Receipt) → rec ≡ (slice_index_or rs i d).rec)
    → slice_get (as_placed rs) i ≡ Some (at_place place rec)
receipt_at [] i place rec below first second = absurd (omega arith)
receipt_at (r ∷ rs) zero place rec below first second = ap (λ n. Some (at_place n r.rec)) (sym (first r)) ∙ ap (λ v. Some (at_place place v)) (sym (second r))
receipt_at (r ∷ rs) (suc i) place rec below first second = receipt_at rs i place rec (omega arith) first second

-- ---- answers

pub on_err : {A E : Type 0} (r : Result A E) (P : Type 0) → P → OnErr r P
on_err (Ok a) P p = tt
on_err (Err e) P p = p

pub ok_so : {A E : Type 0} (r : Result A E) (P Q : Type 0) → (P → Q) → OnOk r P → OnOk r Q
ok_so (Ok a) P Q f p = f p
ok_so (Err e) P Q f p = tt

pub err_so : {A E : Type 0} (r : Result A E) (P Q : Type 0) → (P → Q) → OnErr r P → OnErr r Q
err_so (Ok a) P Q f p = tt
err_so (Err e) P Q f p = f p

pub both_ok : {A E : Type 0} (r : Result A E) (P Q : A → Type 0) (W : Type 0) → ((a : A) → P a → W → Q a) → IfOk r P → OnOk r W → IfOk r Q
both_ok (Ok a) P Q W f p w = f a p w
both_ok (Err e) P Q W f p w = tt
