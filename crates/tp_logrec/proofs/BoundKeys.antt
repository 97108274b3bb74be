-- Which keys are bound, by the last record of each.
use Rattle.std.proofs.Common.{◌≡◌, ℕ, Option, Some, None, List, [], ◌∷◌, ◌++◌, refl, sym, ◌∙◌, ap, Bool, true, false}
use Rattle.std.specs.Prelude.{◌&&◌, ◌||◌, ◌==◌, not}
use Rattle.tp_names.proofs.Sames.{both}
use Rattle.tp_logrec.specs.declared.record.LogRec.{LogRec}
use Rattle.tp_logrec.specs.Order.{Owner, owner, is_owner, is_bound, holds, others, bound_after, bound_from, bound, is_free, last_by, last_from}
use Rattle.tp_logrec.proofs.Sames.{owner_same, owner_self}

abbrev pub has : Owner → List Owner → Bool
has o [] = false
has o (p ∷ ps) = is_owner p o || has o ps

pub has_others : (o p : Owner) (os : List Owner) → has o (others os p) ≡ (not (is_owner p o) && has o os)
has_others o p [] = go (is_owner p o)
  where
    go : (b : Bool) → false ≡ (not b && false)
    go true = refl
    go false = refl
has_others o p (q ∷ qs) = go (is_owner q p) refl (has_others o p qs)
  where
    same_go : (b x : Bool) → (not b && x) ≡ (not b && (b || x))
    same_go true x = refl
    same_go false x = refl

    other_go : (b c x : Bool) → (b ≡ true → c ≡ false) → (c || (not b && x)) ≡ (not b && (c || x))
    other_go true c x e = let f : c ≡ false = e refl in ap (λ t. t || false) f
    other_go false c x e = refl

    go : (b : Bool) → is_owner q p ≡ b → has o (others qs p) ≡ (not (is_owner p o) && has o qs)
        → has o (elim b as (λ _. List Owner) [ true ↦ others qs p | false ↦ q ∷ others qs p ]) ≡ (not (is_owner p o) && (is_owner q o || has o qs))
    go true e rest = rest ∙ same_go (is_owner p o) (has o qs) ∙ ap (λ (t : Owner). not (is_owner p o) && (is_owner t o || has o qs)) (sym (owner_same q p e))
    go false e rest =
        ap (λ (t : Bool). is_owner q o || t) rest
        ∙ other_go (is_owner p o) (is_owner q o) (has o qs) (λ f. ap (λ (t : Owner). is_owner q t) (sym (owner_same p o f)) ∙ e)

pub has_end : (o p : Owner) (os : List Owner) → has o (os ++ p ∷ []) ≡ (has o os || is_owner p o)
has_end o p [] = go (is_owner p o)
  where
    go : (b : Bool) → (b || false) ≡ (false || b)
    go true = refl
    go false = refl
has_end o p (q ∷ qs) = ap (λ b. is_owner q o || b) (has_end o p qs) ∙ go (is_owner q o)
  where
    go : (b : Bool) → (b || (has o qs || is_owner p o)) ≡ ((b || has o qs) || is_owner p o)
    go true = refl
    go false = refl

-- ---- among the bound keys are those whose last record binds them

abbrev pub AreBound : Owner → List Owner → Option LogRec → Type 0
AreBound o os before = has o os ≡ holds before is_bound

pub bound_more : (o p : Owner) (os : List Owner) (before : Option LogRec) (r : LogRec) → is_bound r ≡ true → AreBound o os before
    → has o (others os p ++ p ∷ []) ≡ holds (elim (is_owner p o) as (λ _. Option LogRec) [ false ↦ before | true ↦ Some r ]) is_bound
bound_more o p os before r binding e = has_end o p (others os p) ∙ ap (λ b. b || is_owner p o) (has_others o p os) ∙ go (is_owner p o)
  where
    go : (b : Bool) → ((not b && has o os) || b) ≡ holds (elim b as (λ _. Option LogRec) [ false ↦ before | true ↦ Some r ]) is_bound
    go true = sym binding
    go false = or_false (has o os) ∙ e
      where
        or_false : (x : Bool) → (x || false) ≡ x
        or_false true = refl
        or_false false = refl

pub bound_less : (o p : Owner) (os : List Owner) (before now : Option LogRec) → holds now is_bound ≡ false → AreBound o os before
    → has o (others os p) ≡ holds (elim (is_owner p o) as (λ _. Option LogRec) [ false ↦ before | true ↦ now ]) is_bound
bound_less o p os before now loose e = has_others o p os ∙ go (is_owner p o)
  where
    go : (b : Bool) → (not b && has o os) ≡ holds (elim b as (λ _. Option LogRec) [ false ↦ before | true ↦ now ]) is_bound
    go true = sym loose
    go false = e

pub bound_step : (o : Owner) (os : List Owner) (before : Option LogRec) (r : LogRec) → AreBound o os before → AreBound o (bound_after os r) (last_by o before r)
bound_step o os before (LogRec.Boot n) e = e
bound_step o os before (LogRec.Ready n k a cs) e = bound_more o (owner n k) os before (LogRec.Ready n k a cs) refl e
bound_step o os before (LogRec.Heuristic n k h) e = bound_more o (owner n k) os before (LogRec.Heuristic n k h) refl e
bound_step o os before (LogRec.Commit n k a cs) e = bound_more o (owner n k) os before (LogRec.Commit n k a cs) refl e
bound_step o os before (LogRec.Damage n k a h p cs) e = bound_less o (owner n k) os before (Some (LogRec.Damage n k a h p cs)) refl e
bound_step o os before (LogRec.End n k h) e = bound_less o (owner n k) os before None refl e

pub bound_all : (o : Owner) (os : List Owner) (before : Option LogRec) (rs : List LogRec) → AreBound o os before → AreBound o (bound_from os rs) (last_from o before rs)
bound_all o os before [] e = e
bound_all o os before (r ∷ rs) e = bound_all o (bound_after os r) (last_by o before r) rs (bound_step o os before r e)

-- ---- a node is free where the last record of none of its keys binds it

abbrev pub IsLoose : ℕ → List LogRec → Type 0
IsLoose n rs = (o : Owner) → (o.node == n) ≡ true → holds (last_from o None rs) is_bound ≡ false

pub free_none : (n : ℕ) (os : List Owner) (o : Owner) → is_free n os ≡ true → (o.node == n) ≡ true → has o os ≡ false
free_none n [] o e f = refl
free_none n (p ∷ ps) o e f = go (is_owner p o) refl (free_none n ps o (both (not (p.node == n)) (is_free n ps) e).1 f)
  where
    go : (b : Bool) → is_owner p o ≡ b → has o ps ≡ false → (b || has o ps) ≡ false
    go true h rest =
        let x = both (not (p.node == n)) (is_free n ps) e in
        let same : p.node ≡ o.node = ap (λ (t : Owner). t.node) (owner_same p o h) in
        absurd (let t : not (o.node == n) ≡ true = sym (ap (λ (m : ℕ). not (m == n)) same) ∙ x.0 in let clash : false ≡ true = sym (ap not f) ∙ t in cc)
    go false h rest = rest

pub none_free : (n : ℕ) (os : List Owner) → ((o : Owner) → (o.node == n) ≡ true → has o os ≡ false) → is_free n os ≡ true
none_free n [] h = refl
none_free n (p ∷ ps) h = go (p.node == n) refl (none_free n ps (λ o f. later o (is_owner p o) (h o f)))
  where
    later : (o : Owner) (b : Bool) → (b || has o ps) ≡ false → has o ps ≡ false
    later o true e = absurd (let clash : true ≡ false = e in cc)
    later o false e = e

    go : (b : Bool) → (p.node == n) ≡ b → is_free n ps ≡ true → (not b && is_free n ps) ≡ true
    go false e rest = rest
    go true e rest = absurd (let t : (true || has p ps) ≡ false = sym (ap (λ b. b || has p ps) (owner_self p)) ∙ h p e in let clash : true ≡ false = t in cc)

pub free_is_loose : (n : ℕ) (rs : List LogRec) → is_free n (bound rs) ≡ true → IsLoose n rs
free_is_loose n rs e o at = sym (bound_all o [] None rs refl) ∙ free_none n (bound rs) o e at

pub loose_is_free : (n : ℕ) (rs : List LogRec) → IsLoose n rs → is_free n (bound rs) ≡ true
loose_is_free n rs loose = none_free n (bound rs) (λ o at. bound_all o [] None rs refl ∙ loose o at)
