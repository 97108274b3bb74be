-- Records as bodies and bodies as records.
use Rattle.std.proofs.Common.{◌≡◌, ℕ, zero, suc, slice_index_or, ◌+◌, ◌-◌, ◌<◌, ◌||◌, Bool, true, false, Option, Some, None, List, [], ◌∷◌, ◌++◌, length, take, refl, sym, ap, ◌∙◌, subst, arith, append_assoc, length-append}
use Rattle.std.proofs.lemmas.List.{take_at}
use Rattle.std.proofs.lemmas.Grind.{common_steps}
use Rattle.std.proofs.lemmas.List.Elements.{All-from_recursion}
use Rattle.std.specs.List.{All, AllByRecursion}
use Rattle.tp_names.specs.Same.{is_name}
use Rattle.tp_logrec.specs.declared.record.LogRec.{LogRec}
use Rattle.tp_logrec.specs.RecordReading.{record_in, whole}
use Rattle.tp_logrec.specs.LogText.{version_mark}
use Rattle.tp_journal.specs.Log.{blocks, counted, place_behind}
use Rattle.tp_journal.specs.Read.{Takes}
use Rattle.tp_journal.specs.declared.receipts.Receipt.{Receipt}
use Rattle.tp_journal.specs.Records.{receipts_from, placed, version_of, HasText, text, texts, marks, bodies_of, is_mark, is_some, is_text, record_body, places_from, first_place, IsPlaced, wide_of, with_rec, recs_in, recs_of, AreRecords, ReadsText}

-- ---- the mark and the texts

-- no record's text is the mark
pub no_mark : (wide : Bool) (r : LogRec) → is_mark (text wide r) ≡ false
no_mark wide (LogRec.Boot n) = refl
no_mark wide (LogRec.Ready n k a cs) = refl
no_mark wide (LogRec.Heuristic n k o) = refl
no_mark wide (LogRec.Commit n k a cs) = refl
no_mark wide (LogRec.Damage n k a o r cs) = refl
no_mark wide (LogRec.End n k o) = refl

pub wide_is : (wide : Bool) (rs : List LogRec) → wide_of (bodies_of wide rs) ≡ wide
wide_is true rs = refl
wide_is false [] = refl
wide_is false (r ∷ rs) = no_mark false r

-- a text is read as its record
pub text_is_read : (wide : Bool) (r : LogRec) → HasText wide r → record_in (version_of wide) (text wide r) ≡ Some r
text_is_read wide r has = ap whole has

texts_are_read : (wide : Bool) (rs : List LogRec) → AllByRecursion (HasText wide) rs → recs_in wide (texts wide rs) ≡ rs
texts_are_read wide [] all = refl
texts_are_read wide (r ∷ rs) all =
    ap (λ o. with_rec o (recs_in wide (texts wide rs))) (text_is_read wide r all.0) ∙ ap (λ l. r ∷ l) (texts_are_read wide rs all.1)

behind_marks : (wide : Bool) (rs : List LogRec) → recs_in wide (bodies_of wide rs) ≡ recs_in wide (texts wide rs)
behind_marks true rs = refl
behind_marks false rs = refl

pub recs_is : (wide : Bool) (rs : List LogRec) → AllByRecursion (HasText wide) rs → recs_of (bodies_of wide rs) ≡ rs
recs_is wide rs all = ap (λ w. recs_in w (bodies_of wide rs)) (wide_is wide rs) ∙ behind_marks wide rs ∙ texts_are_read wide rs all

pub are_records : (wide : Bool) (rs : List LogRec) → AllByRecursion (HasText wide) rs → AreRecords (bodies_of wide rs)
are_records wide rs all =
    let w : wide_of (bodies_of wide rs) ≡ wide = wide_is wide rs in
    let is : recs_of (bodies_of wide rs) ≡ rs = recs_is wide rs all in
    record {
      are = ap (λ v. bodies_of v rs) (sym w) ∙ ap (λ l. bodies_of (wide_of (bodies_of wide rs)) l) (sym is);
      each = subst (λ l. AllByRecursion (HasText (wide_of (bodies_of wide rs))) l) (sym is) (subst (λ v. AllByRecursion (HasText v) rs) (sym w) all);
    }

-- ---- one record more

texts-push : (wide : Bool) (rs : List LogRec) (r : LogRec) → texts wide (rs ++ r ∷ []) ≡ texts wide rs ++ text wide r ∷ []
texts-push wide [] r = refl
texts-push wide (q ∷ rs) r = ap (λ l. text wide q ∷ l) (texts-push wide rs r)

pub bodies-push : (wide : Bool) (rs : List LogRec) (r : LogRec) → bodies_of wide (rs ++ r ∷ []) ≡ bodies_of wide rs ++ text wide r ∷ []
bodies-push wide rs r = ap (λ l. marks wide ++ l) (texts-push wide rs r) ∙ sym (append_assoc (marks wide) (texts wide rs) (text wide r ∷ []))

pub texts_more : (wide : Bool) (rs : List LogRec) (r : LogRec) → AllByRecursion (HasText wide) rs → HasText wide r → AllByRecursion (HasText wide) (rs ++ r ∷ [])
texts_more wide [] r all has = (has, tt)
texts_more wide (q ∷ rs) r all has = (all.0, texts_more wide rs r all.1 has)

-- the test of names tells equality
pub same_name : (xs ys : List ℕ) → is_name xs ys ≡ true → xs ≡ ys
same_name [] [] is = refl
same_name [] (y ∷ ys) is = absurd cc
same_name (x ∷ xs) [] is = absurd cc
same_name (x ∷ xs) (y ∷ ys) is = grind (arith, common_steps, same_name xs ys)

nothing : (rs : List LogRec) → length rs ≡ 0 → rs ≡ []
nothing [] empty = refl
nothing (r ∷ rs) empty = absurd (omega (arith, empty))

-- ---- what may come next

either : (b : Bool) → (b || true) ≡ true
either true = refl
either false = refl

neither : (b : Bool) → b ≡ false → (b || false) ≡ false
neither true is = is
neither false is = refl

is_text_of : (wide : Bool) (body : List ℕ) (o : Option LogRec) → record_in (version_of wide) body ≡ o → is_text wide body ≡ is_some o
is_text_of wide body o is = ap is_some is

-- a text passes
pub passes : (wide : Bool) (rs : List LogRec) (body : List ℕ) → is_text wide body ≡ true → record_body (bodies_of wide rs) body ≡ true
passes true rs body is = is
passes false [] body is = ap (λ b. is_mark body || b) is ∙ either (is_mark body)
passes false (r ∷ rs) body is = ap (λ w. is_text w body) (no_mark false r) ∙ is

-- what is no text passes only as the mark at the front
pub fails : (wide : Bool) (rs : List LogRec) (body : List ℕ) → (wide ≡ false → length rs ≡ 0 → is_mark body ≡ false) → is_text wide body ≡ false → record_body (bodies_of wide rs) body ≡ false
fails true rs body other is = is
fails false [] body other is = ap (λ b. is_mark body || b) is ∙ neither (is_mark body) (other refl refl)
fails false (r ∷ rs) body other is = ap (λ w. is_text w body) (no_mark false r) ∙ is

texts_from : (at : ℕ) (wide : Bool) (rs : List LogRec) → AllByRecursion (HasText wide) rs → AllByRecursion (λ r. HasText wide r.rec) (receipts_from at wide rs)
texts_from at wide [] all = tt
texts_from at wide (r ∷ rs) all = (all.0, texts_from (at + 3 + length (text wide r)) wide rs all.1)

-- the records at their places have the texts that they have
pub texts_placed : (wide : Bool) (rs : List LogRec) → AllByRecursion (HasText wide) rs → All (λ r. HasText wide r.rec) (placed wide rs)
texts_placed wide rs all = All-from_recursion (λ r. HasText wide r.rec) (placed wide rs) (texts_from (first_place wide) wide rs all)

pub text_passes : (wide : Bool) (rs : List LogRec) (r : LogRec) → HasText wide r → record_body (bodies_of wide rs) (text wide r) ≡ true
text_passes wide rs r has = passes wide rs (text wide r) (is_text_of wide (text wide r) (Some r) (text_is_read wide r has))

pub takes_mark : (wide : Bool) (rs : List LogRec) (body : List ℕ) → wide ≡ false → length rs ≡ 0 → is_mark body ≡ true → Takes record_body (bodies_of wide rs) body (bodies_of true rs) true
takes_mark wide rs body one empty named =
    let none : rs ≡ [] = nothing rs empty in
    let is : body ≡ version_mark = same_name body version_mark named in
    let P : Bool → List LogRec → List ℕ → Type 0 = λ w l b. Takes record_body (bodies_of w l) b (bodies_of true l) true in
    subst (λ w. P w rs body) (sym one) (subst (λ l. P false l body) (sym none) (subst (λ b. P false [] b) (sym is) (refl, refl)))

pub read_passes : (wide : Bool) (rs : List LogRec) (body : List ℕ) (r : LogRec) → ReadsText wide body (Some r) → record_body (bodies_of wide rs) body ≡ true
read_passes wide rs body r reads = subst (λ l. record_body (bodies_of wide rs) l ≡ true) reads.1 (text_passes wide rs r reads.0)

pub takes_none : (wide : Bool) (rs : List LogRec) (body : List ℕ) → (wide ≡ false → length rs ≡ 0 → is_mark body ≡ false) → ReadsText wide body None → Takes record_body (bodies_of wide rs) body (bodies_of wide rs) false
takes_none wide rs body other reads = (fails wide rs body other (is_text_of wide body None reads), refl)

-- ---- one record less

pub pushed_front : (xs before : List (List ℕ)) (x body : List ℕ) → xs ++ x ∷ [] ≡ before ++ body ∷ [] → xs ≡ before
pushed_front xs before x body is =
    let same : length xs ≡ length before = omega (arith, ap length is, length-append xs (x ∷ []), length-append before (body ∷ [])) in
    sym (take_at xs (x ∷ []) (length before) same) ∙ ap (λ (l : List (List ℕ)). take (length before) l) is ∙ take_at before (body ∷ []) (length before) refl

no_front : (wide : Bool) (before : List (List ℕ)) (body : List ℕ) → marks wide ≡ before ++ body ∷ [] → [] ≡ before
no_front wide [] body is = refl
no_front true (b ∷ before) body is = absurd (omega (arith, ap length is, length-append (b ∷ before) (body ∷ [])))
no_front false (b ∷ before) body is = absurd (omega (arith, ap length is, length-append (b ∷ before) (body ∷ [])))

append_none : (xs : List (List ℕ)) → xs ++ [] ≡ xs
append_none [] = refl
append_none (x ∷ xs) = ap (λ l. x ∷ l) (append_none xs)

pub forgets_mark : (wide : Bool) (rs : List LogRec) (before : List (List ℕ)) (body : List ℕ) → length rs ≡ 0 → bodies_of wide rs ≡ before ++ body ∷ [] → bodies_of false rs ≡ before
forgets_mark wide rs before body empty is =
    let none : rs ≡ [] = nothing rs empty in
    ap (λ l. bodies_of false l) none ∙ no_front wide before body (sym (append_none (marks wide)) ∙ ap (λ l. bodies_of wide l) (sym none) ∙ is)

pub forgets_record : (wide : Bool) (rs qs : List LogRec) (r : LogRec) (before : List (List ℕ)) (body : List ℕ) → qs ≡ rs ++ r ∷ [] → bodies_of wide qs ≡ before ++ body ∷ [] → bodies_of wide rs ≡ before
forgets_record wide rs qs r before body popped is =
    pushed_front (bodies_of wide rs) before (text wide r) body (sym (bodies-push wide rs r) ∙ ap (λ l. bodies_of wide l) (sym popped) ∙ is)

-- ---- places

size_of_blocks : (x : List ℕ) (xs : List (List ℕ)) → length (blocks (x ∷ xs)) ≡ 3 + length x + length (blocks xs)
size_of_blocks x xs = omega (arith, length-append (1 ∷ counted x) (blocks xs))

places-push : (at : ℕ) (wide : Bool) (rs : List LogRec) (r : LogRec) → places_from at wide (rs ++ r ∷ []) ≡ places_from at wide rs ++ (at + length (blocks (texts wide rs))) ∷ []
places-push at wide [] r = let e : at + 0 ≡ at = omega arith in rw e refl
places-push at wide (q ∷ rs) r =
    let e : at + 3 + length (text wide q) + length (blocks (texts wide rs)) ≡ at + length (blocks (texts wide (q ∷ rs))) = omega (arith, size_of_blocks (text wide q) (texts wide rs)) in
    ap (λ l. at ∷ l) (places-push (at + 3 + length (text wide q)) wide rs r) ∙ ap (λ (n : ℕ). at ∷ (places_from (at + 3 + length (text wide q)) wide rs ++ n ∷ [])) e

pub behind_first : (wide : Bool) (rs : List LogRec) → first_place wide + length (blocks (texts wide rs)) ≡ place_behind (bodies_of wide rs)
behind_first false rs = refl
behind_first true rs = omega (arith, size_of_blocks version_mark (texts true rs))

pub placed_more : (wide : Bool) (rs : List LogRec) (r : LogRec) (places : List ℕ) (place : ℕ) → IsPlaced wide rs places → HasText wide r → place ≡ place_behind (bodies_of wide rs) → IsPlaced wide (rs ++ r ∷ []) (places ++ place ∷ [])
placed_more wide rs r places place placed has is = record {
  texts = texts_more wide rs r placed.texts has;
  places_are = ap (λ l. l ++ place ∷ []) placed.places_are ∙ ap (λ (n : ℕ). places_from (first_place wide) wide rs ++ n ∷ []) (is ∙ sym (behind_first wide rs)) ∙ sym (places-push (first_place wide) wide rs r);
}

pub placed_as_wide : (rs : List LogRec) (places : List ℕ) → length rs ≡ 0 → IsPlaced false rs places → IsPlaced true rs places
placed_as_wide rs places empty placed =
    let none : rs ≡ [] = nothing rs empty in
    record {
      texts = subst (λ l. AllByRecursion (HasText true) l) (sym none) tt;
      places_are = placed.places_are ∙ ap (λ l. places_from 5 false l) none ∙ sym (ap (λ l. places_from 10 true l) none);
    }

texts_front : (wide : Bool) (rs : List LogRec) (r : LogRec) → AllByRecursion (HasText wide) (rs ++ r ∷ []) → AllByRecursion (HasText wide) rs
texts_front wide [] r all = tt
texts_front wide (q ∷ rs) r all = (all.0, texts_front wide rs r all.1)

pub places_long : (at : ℕ) (wide : Bool) (rs : List LogRec) → length (places_from at wide rs) ≡ length rs
places_long at wide [] = refl
places_long at wide (r ∷ rs) = ap suc (places_long (at + 3 + length (text wide r)) wide rs)

pub placed_less : (wide : Bool) (rs qs : List LogRec) (r : LogRec) (places : List ℕ) → qs ≡ rs ++ r ∷ [] → IsPlaced wide qs places → IsPlaced wide rs (take (length qs - 1) places)
placed_less wide rs qs r places longer placed =
    let n : length qs - 1 ≡ length rs = omega (arith, ap length longer, length-append rs (r ∷ [])) in
    let is : places ≡ places_from (first_place wide) wide rs ++ (first_place wide + length (blocks (texts wide rs))) ∷ [] =
    placed.places_are ∙ ap (λ l. places_from (first_place wide) wide l) longer ∙ places-push (first_place wide) wide rs r in
    record {
      texts = texts_front wide rs r (subst (λ l. AllByRecursion (HasText wide) l) longer placed.texts);
      places_are = ap (λ (k : ℕ). take k places) n ∙ ap (λ (l : List ℕ). take (length rs) l) is ∙ take_at (places_from (first_place wide) wide rs) _ (length rs) (places_long (first_place wide) wide rs);
    }

-- a list with something in it has a last
pub split_last : (rs : List LogRec) → 0 < length rs → (r : LogRec) × (rs ≡ take (length rs - 1) rs ++ r ∷ [])
split_last [] some = absurd (omega arith)
split_last (r ∷ []) some = (r, refl)
split_last (q ∷ r ∷ rs) some =
    let rest = split_last (r ∷ rs) (omega arith) in
    (rest.0, let e : length (q ∷ r ∷ rs) - 1 ≡ suc (length (r ∷ rs) - 1) = omega arith in rw e (ap (λ l. q ∷ l) rest.1))

-- ---- look-ups

pub place_at : (at : ℕ) (wide : Bool) (rs : List LogRec) (i : ℕ) (d : Receipt) → i < length rs → slice_index_or (places_from at wide rs) i 0 ≡ (slice_index_or (receipts_from at wide rs) i d).place
place_at at wide [] i d below = absurd (omega arith)
place_at at wide (r ∷ rs) zero d below = refl
place_at at wide (r ∷ rs) (suc i) d below = place_at (at + 3 + length (text wide r)) wide rs i d (omega arith)

pub rec_at : (at : ℕ) (wide : Bool) (rs : List LogRec) (i : ℕ) (d : Receipt) (e : LogRec) → i < length rs → slice_index_or rs i e ≡ (slice_index_or (receipts_from at wide rs) i d).rec
rec_at at wide [] i d e below = absurd (omega arith)
rec_at at wide (r ∷ rs) zero d e below = refl
rec_at at wide (r ∷ rs) (suc i) d e below = rec_at (at + 3 + length (text wide r)) wide rs i d e (omega arith)

pub receipts_long : (at : ℕ) (wide : Bool) (rs : List LogRec) → length (receipts_from at wide rs) ≡ length rs
receipts_long at wide [] = refl
receipts_long at wide (r ∷ rs) = ap suc (receipts_long (at + 3 + length (text wide r)) wide rs)

pub receipts-push : (at : ℕ) (wide : Bool) (rs : List LogRec) (r : LogRec) → receipts_from at wide (rs ++ r ∷ []) ≡ receipts_from at wide rs ++ record { place = at + length (blocks (texts wide rs)); rec = r } ∷ []
receipts-push at wide [] r = let e : at + 0 ≡ at = omega arith in rw e refl
receipts-push at wide (q ∷ rs) r =
    let e : at + 3 + length (text wide q) + length (blocks (texts wide rs)) ≡ at + length (blocks (texts wide (q ∷ rs))) = omega (arith, size_of_blocks (text wide q) (texts wide rs)) in
    ap (λ l. record { place = at; rec = q } ∷ l) (receipts-push (at + 3 + length (text wide q)) wide rs r)
    ∙ ap (λ (n : ℕ). record { place = at; rec = q } ∷ (receipts_from (at + 3 + length (text wide q)) wide rs ++ record { place = n; rec = r } ∷ [])) e
