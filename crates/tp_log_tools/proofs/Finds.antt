-- The findings of a log, and the keys that have a later record.
use Rattle.std.proofs.Common.{◌≡◌, ℕ, zero, suc, ◌+◌, ◌<◌, Bool, true, false, Option, Some, None, List, [], ◌∷◌, ◌++◌, length, drop, get_or, refl, sym, ap, ◌∙◌, arith, cond, append_assoc}
use Rattle.std.specs.Prelude.{slice_get, reverse, ◌||◌, ◌&&◌, not}
use Rattle.std.proofs.lemmas.List.{drop_more, reverse-append}
use Rattle.tp_logrec.specs.declared.record.LogRec.{LogRec}
use Rattle.tp_logrec.specs.declared.owner.Owner.{Owner}
use Rattle.tp_logrec.specs.LogText.{Placed}
use Rattle.tp_logrec.specs.Order.{owner_of, is_of, is_owner, is_damage}
use Rattle.tp_model.specs.LogCommands.{has_later, is_finding, findings}
use Rattle.tp_logrec.specs.LogText.{recs}
use Rattle.tp_log_tools.specs.Findings.{has_any, is_found, found_from, at_index, picked}

-- ---- by places and by indices

later_alike : (o : Owner) (ps : List Placed) → has_any o (recs ps) ≡ has_later o ps
later_alike o [] = refl
later_alike o (p ∷ ps) = ap (λ t. is_of o p.rec || t) (later_alike o ps)

found_alike : (r : LogRec) (ps : List Placed) → is_found r (recs ps) ≡ is_finding r ps
found_alike r ps = go (owner_of r)
  where
    go : (o : Option Owner) → (is_damage r && elim o as (λ _. Bool) [ None ↦ false | Some o ↦ not (has_any o (recs ps)) ]) ≡ (is_damage r && elim o as (λ _. Bool) [ None ↦ false | Some o ↦ not (has_later o ps) ])
    go None = refl
    go (Some o) = ap (λ t. is_damage r && not t) (later_alike o ps)

index_at : (front : List Placed) (p : Placed) (ps : List Placed) → at_index (front ++ p ∷ ps) (length front) ≡ p ∷ []
index_at [] p ps = refl
index_at (q ∷ front) p ps = index_at front p ps

picked_after : (front ps : List Placed) (n : ℕ) → n ≡ length front → picked (front ++ ps) (found_from n (recs ps)) ≡ findings ps
picked_after front [] n is = refl
picked_after front (p ∷ ps) n is =
    let whole : (front ++ p ∷ []) ++ ps ≡ front ++ p ∷ ps = append_assoc front (p ∷ []) ps in
    let long : n + 1 ≡ length (front ++ p ∷ []) = omega (arith, is, longer front) in
    let rest : picked (front ++ p ∷ ps) (found_from (n + 1) (recs ps)) ≡ findings ps = ap (λ l. picked l (found_from (n + 1) (recs ps))) (sym whole) ∙ picked_after (front ++ p ∷ []) ps (n + 1) long in
    go (is_found p.rec (recs ps)) (is_finding p.rec ps) (found_alike p.rec ps) rest
  where
    longer : (xs : List Placed) → length (xs ++ p ∷ []) ≡ length xs + 1
    longer [] = refl
    longer (x ∷ xs) = omega (arith, longer xs)

    go : (t u : Bool) → t ≡ u → picked (front ++ p ∷ ps) (found_from (n + 1) (recs ps)) ≡ findings ps
        → picked (front ++ p ∷ ps) (elim t as (λ _. List ℕ) [ true ↦ n ∷ found_from (n + 1) (recs ps) | false ↦ found_from (n + 1) (recs ps) ]) ≡ (elim u as (λ _. List Placed) [ true ↦ p ∷ findings ps | false ↦ findings ps ])
    go true true e rest = ap (λ k. at_index (front ++ p ∷ ps) k ++ picked (front ++ p ∷ ps) (found_from (n + 1) (recs ps))) is ∙ ap (λ l. l ++ picked (front ++ p ∷ ps) (found_from (n + 1) (recs ps))) (index_at front p ps) ∙ ap (λ l. p ∷ l) rest
    go false false e rest = rest
    go true false e rest = absurd cc
    go false true e rest = absurd cc

pub findings_picked : (ps : List Placed) → picked ps (found_from 0 (recs ps)) ≡ findings ps
findings_picked ps = picked_after [] ps 0 refl

-- each of them is an index of the list
pub found_below : (n : ℕ) (rs : List LogRec) (k : ℕ) → k < length (found_from n rs) → get_or (found_from n rs) k 0 < n + length rs
found_below n [] k below = absurd (omega arith)
found_below n (r ∷ rs) k below = go (found_below (n + 1) rs) (is_found r rs) k below
  where
    go : ((j : ℕ) → j < length (found_from (n + 1) rs) → get_or (found_from (n + 1) rs) j 0 < n + 1 + length rs) → (t : Bool) (j : ℕ) → j < length (elim t as (λ _. List ℕ) [ true ↦ n ∷ found_from (n + 1) rs | false ↦ found_from (n + 1) rs ])
        → get_or (elim t as (λ _. List ℕ) [ true ↦ n ∷ found_from (n + 1) rs | false ↦ found_from (n + 1) rs ]) j 0 < n + suc (length rs)
    go later false j h = omega (arith, later j h)
    go later true zero h = omega arith
    go later true (suc j) h = let under : j < length (found_from (n + 1) rs) = omega arith in omega (arith, later j under)

abbrev AllBelow : ℕ → List ℕ → Type 0
AllBelow n found = (k : ℕ) → k < length found → get_or found k 0 < n

one_there : (ps : List Placed) (i : ℕ) → i < length ps → (p : Placed) × (at_index ps i ≡ p ∷ []) × (slice_get ps i ≡ Some p)
one_there [] i below = absurd (omega arith)
one_there (p ∷ ps) zero below = (p, refl, refl)
one_there (p ∷ ps) (suc i) below = one_there ps i (omega arith)

pub picked_length : (ps : List Placed) (found : List ℕ) → AllBelow (length ps) found → length (picked ps found) ≡ length found
picked_length ps [] below = refl
picked_length ps (i ∷ is) below =
    let one = one_there ps i (below 0 (omega arith)) in
    ap (λ l. length (l ++ picked ps is)) one.1 ∙ ap suc (picked_length ps is (λ k h. below (suc k) (omega arith)))

pub picked_at : (ps : List Placed) (found : List ℕ) (k : ℕ) (p : Placed) → AllBelow (length ps) found → k < length found → slice_get ps (get_or found k 0) ≡ Some p → slice_get (picked ps found) k ≡ Some p
picked_at ps [] k p below h is = absurd (omega arith)
picked_at ps (i ∷ is) zero p below h there =
    let one = one_there ps i (below 0 (omega arith)) in
    ap (λ l. slice_get (l ++ picked ps is) 0) one.1 ∙ sym one.2 ∙ there
picked_at ps (i ∷ is) (suc k) p below h there =
    let one = one_there ps i (below 0 (omega arith)) in
    ap (λ l. slice_get (l ++ picked ps is) (suc k)) one.1 ∙ picked_at ps is k p (λ j less. below (suc j) (omega arith)) (omega arith) there

-- ---- one record more, from the end

module _ (rs : List LogRec) (n i : ℕ) (r : LogRec) (p : Owner) (next : n ≡ i + 1) (below : i < length rs) (is : r ≡ get_or rs i r) (some : owner_of r ≡ Some p) where
  one_before : drop i rs ≡ r ∷ drop n rs
  one_before = drop_more rs i r below ∙ ap (λ q. q ∷ drop (i + 1) rs) (sym is) ∙ ap (λ k. r ∷ drop k rs) (sym next)

  pub later_step : (old new : Owner → Bool) → ((o : Owner) → old o ≡ has_any o (drop n rs)) → ((o : Owner) → new o ≡ cond (is_owner p o) true (old o)) → (o : Owner) → new o ≡ has_any o (drop i rs)
  later_step old new so_far grows o =
      grows o ∙ ap (cond (is_owner p o) true) (so_far o) ∙ sym (ap (has_any o) one_before ∙ ap (λ w. elim w as (λ _. Bool) [ None ↦ false | Some q ↦ is_owner q o ] || has_any o (drop n rs)) some ∙ go (is_owner p o))
    where
      go : (t : Bool) → (t || has_any o (drop n rs)) ≡ cond t true (has_any o (drop n rs))
      go true = refl
      go false = refl

  abbrev from_here : Bool → List ℕ
  from_here t = elim t [ true ↦ i ∷ found_from (i + 1) (drop n rs) | false ↦ found_from (i + 1) (drop n rs) ]

  pub found_step : (last damage : Bool) (old : Bool) (was now : List ℕ) → last ≡ not old → old ≡ has_any p (drop n rs) → damage ≡ is_damage r
      → reverse was ≡ found_from n (drop n rs) → now ≡ cond (last && damage) (was ++ i ∷ []) was → reverse now ≡ found_from i (drop i rs)
  found_step last damage old was now last_is old_is damage_is so_far now_is =
      let known : is_found r (drop n rs) ≡ (last && damage) =
      ap (λ w. is_damage r && elim w as (λ _. Bool) [ None ↦ false | Some o ↦ not (has_any o (drop n rs)) ]) some ∙ swapped (is_damage r) (not (has_any p (drop n rs)))
      ∙ ap (λ t. not t && is_damage r) (sym old_is) ∙ ap (λ t. t && is_damage r) (sym last_is) ∙ ap (λ t. last && t) (sym damage_is) in
      ap reverse now_is ∙ go (last && damage) ∙ sym (ap (found_from i) one_before ∙ ap from_here known)
    where
      swapped : (a b : Bool) → (a && b) ≡ (b && a)
      swapped true true = refl
      swapped true false = refl
      swapped false true = refl
      swapped false false = refl

      go : (t : Bool) → reverse (cond t (was ++ i ∷ []) was) ≡ from_here t
      go true = reverse-append was (i ∷ []) ∙ ap (λ l. i ∷ l) (so_far ∙ ap (λ k. found_from k (drop n rs)) next)
      go false = so_far ∙ ap (λ k. found_from k (drop n rs)) next
