-- Lists that lose their first items one after another.
use Rattle.std.proofs.Common.{◌≡◌, ◌≢◌, ℕ, zero, suc, ◌+◌, ◌<◌, Bool, true, false, List, [], ◌∷◌, ◌++◌, get_or, map, length, refl, sym, ap, subst, ◌∙◌, arith}
use Rattle.std.specs.List.{sum_by}
use Rattle.std.proofs.lemmas.List.{map-append}
use Rattle.std.proofs.lemmas.List.Sums.{sum_by-cons, sum_by-append}
use Rattle.tp_model.specs.Lanes.{AreEmpty, IsInterleaving}

-- the item was the first of some list, and the others stay
pub record Takes {A : Type 0} (old : List (List A)) (x : A) (new : List (List A)) : Type 0 where
  pub before : List (List A)
  pub own : List A
  pub behind : List (List A)
  pub was : old ≡ before ++ (x ∷ own) ∷ behind
  pub is : new ≡ before ++ own ∷ behind

pub interleaves_step : {A : Type 0} (old new : List (List A)) (x : A) (xs : List A) → Takes old x new → IsInterleaving xs new → IsInterleaving (x ∷ xs) old
interleaves_step old new x xs t rest = (t.before, t.own, t.behind, t.was, subst (IsInterleaving xs) t.is rest)

-- ---- sums

empty_sum : {A : Type 0} (f : A → ℕ) (ls : List (List A)) → AreEmpty ls → sum_by (λ (l : List A). sum_by f l) ls ≡ 0
empty_sum f [] h = refl
empty_sum {A} f ([] ∷ ls) h = omega (arith, empty_sum f ls h, sum_by-cons (λ (l : List A). sum_by f l) [] ls)
empty_sum f ((x ∷ xs) ∷ ls) h = absurd h

-- what items weigh together is what they weigh in their lists
pub woven_sum : {A : Type 0} (f : A → ℕ) (xs : List A) (ls : List (List A)) → IsInterleaving xs ls → sum_by f xs ≡ sum_by (λ (l : List A). sum_by f l) ls
woven_sum f [] ls h = sym (empty_sum f ls h)
woven_sum {A} f (x ∷ xs) ls (before, own, behind, is, rest) =
    let g : List A → ℕ = λ l. sum_by f l in
    let was = ap (sum_by g) is ∙ sum_by-append g before ((x ∷ own) ∷ behind) in
    omega (arith, was, woven_sum f xs (before ++ own ∷ behind) rest, sum_by-append g before (own ∷ behind), sum_by-cons g (x ∷ own) behind, sum_by-cons g own behind, sum_by-cons f x own, sum_by-cons f x xs)

-- ---- items that one list alone has

-- those that pass a test
abbrev pub kept_by : {A : Type 0} → (A → Bool) → List A → List A
kept_by p [] = []
kept_by p (x ∷ xs) = elim (p x) [ true ↦ x ∷ kept_by p xs | false ↦ kept_by p xs ]

kept_yes : {A : Type 0} (p : A → Bool) (x : A) (xs : List A) → p x ≡ true → kept_by p (x ∷ xs) ≡ x ∷ kept_by p xs
kept_yes p x xs h = rw (h, kept_by) refl

kept_no : {A : Type 0} (p : A → Bool) (x : A) (xs : List A) → p x ≡ false → kept_by p (x ∷ xs) ≡ kept_by p xs
kept_no p x xs h = rw (h, kept_by) refl

pub empty_at : {A : Type 0} (ls : List (List A)) (j : ℕ) → AreEmpty ls → get_or ls j [] ≡ []
empty_at [] j h = refl
empty_at ([] ∷ ls) zero h = refl
empty_at ([] ∷ ls) (suc j) h = empty_at ls j h
empty_at ((x ∷ xs) ∷ ls) j h = absurd h

-- every list but that one has none of them
abbrev pub HasAlone : {A : Type 0} → (A → Bool) → List (List A) → ℕ → Type 0
HasAlone p ls j = (i : ℕ) → i ≢ j → kept_by p (get_or ls i []) ≡ []

none_first : {A : Type 0} (p : A → Bool) (x : A) (own : List A) → kept_by p (x ∷ own) ≡ [] → (p x ≡ false) × (kept_by p own ≡ [])
none_first p x own none = go (p x) refl
  where
    go : (b : Bool) → p x ≡ b → (p x ≡ false) × (kept_by p own ≡ [])
    go true h = absurd (let clash = sym (kept_yes p x own h) ∙ none in cc)
    go false h = (h, sym (kept_no p x own h) ∙ none)

-- the first item is of the list at that place, or of another
data Holds {A : Type 0} (p : A → Bool) (old new : List (List A)) (x : A) (j : ℕ) : Type 0 where
  Mine : (own : List A) → get_or old j [] ≡ x ∷ own → get_or new j [] ≡ own → Holds p old new x j
  Other : (p x ≡ false) → get_or new j [] ≡ get_or old j [] → Holds p old new x j

holds_at : {A : Type 0} (p : A → Bool) (before : List (List A)) (own : List A) (behind : List (List A)) (x : A) (j : ℕ) → HasAlone p (before ++ (x ∷ own) ∷ behind) j
    → Holds p (before ++ (x ∷ own) ∷ behind) (before ++ own ∷ behind) x j × HasAlone p (before ++ own ∷ behind) j
holds_at {A} p [] own behind x zero alone = (Mine own refl refl, others)
  where
    others : (i : ℕ) → i ≢ 0 → kept_by p (get_or (own ∷ behind) i []) ≡ []
    others zero h = absurd (h refl)
    others (suc i) h = alone (suc i) h
holds_at {A} p [] own behind x (suc j) alone =
    let none = none_first p x own (alone 0 (λ e. absurd (omega (arith, e)))) in
    (Other none.0 refl, others none.1)
  where
    others : kept_by p own ≡ [] → (i : ℕ) → i ≢ suc j → kept_by p (get_or (own ∷ behind) i []) ≡ []
    others none zero h = none
    others none (suc i) h = alone (suc i) h
holds_at {A} p (l ∷ before) own behind x zero alone =
    (Other (none_in before (λ i h. alone (suc i) (λ e. absurd (omega (arith, e))))).0 refl, others)
  where
    none_in : (before : List (List A)) → ((i : ℕ) → i < length before + 1 → kept_by p (get_or (before ++ (x ∷ own) ∷ behind) i []) ≡ []) → (p x ≡ false) × (kept_by p own ≡ [])
    none_in [] none = none_first p x own (none 0 (omega arith))
    none_in (m ∷ before) none = none_in before (λ i h. none (suc i) (omega (arith, h)))

    others : (i : ℕ) → i ≢ 0 → kept_by p (get_or (l ∷ (before ++ own ∷ behind)) i []) ≡ []
    others zero h = absurd (h refl)
    others (suc i) h = rest before i (λ k. alone (suc k) (λ e. absurd (omega (arith, e))))
      where
        rest : (before : List (List A)) (i : ℕ) → ((k : ℕ) → kept_by p (get_or (before ++ (x ∷ own) ∷ behind) k []) ≡ []) → kept_by p (get_or (before ++ own ∷ behind) i []) ≡ []
        rest [] zero none = (none_first p x own (none 0)).1
        rest [] (suc i) none = none (suc i)
        rest (m ∷ before) zero none = none 0
        rest (m ∷ before) (suc i) none = rest before i (λ k. none (suc k))
holds_at {A} p (l ∷ before) own behind x (suc j) alone =
    let more = holds_at p before own behind x j (λ i h. alone (suc i) (λ e. h (omega (arith, e)))) in
    (further more.0, others more.1)
  where
    further : Holds p (before ++ (x ∷ own) ∷ behind) (before ++ own ∷ behind) x j → Holds p (l ∷ (before ++ (x ∷ own) ∷ behind)) (l ∷ (before ++ own ∷ behind)) x (suc j)
    further (Mine own was is) = Mine own was is
    further (Other out same) = Other out same

    others : HasAlone p (before ++ own ∷ behind) j → (i : ℕ) → i ≢ suc j → kept_by p (get_or (l ∷ (before ++ own ∷ behind)) i []) ≡ []
    others rest zero h = alone 0 h
    others rest (suc i) h = rest i (λ e. h (ap suc e))

pub woven_alone : {A : Type 0} (p : A → Bool) (xs : List A) (ls : List (List A)) (j : ℕ) → IsInterleaving xs ls → HasAlone p ls j → kept_by p xs ≡ kept_by p (get_or ls j [])
woven_alone p [] ls j h alone = ap (kept_by p) (sym (empty_at ls j h))
woven_alone {A} p (x ∷ xs) ls j (before, own, behind, is, rest) alone =
    let step = holds_at p before own behind x j (subst (λ (m : List (List A)). HasAlone p m j) is alone) in
    by step.0 (woven_alone p xs (before ++ own ∷ behind) j rest step.1) ∙ ap (λ (m : List (List A)). kept_by p (get_or m j [])) (sym is)
  where
    by : Holds p (before ++ (x ∷ own) ∷ behind) (before ++ own ∷ behind) x j → kept_by p xs ≡ kept_by p (get_or (before ++ own ∷ behind) j []) → kept_by p (x ∷ xs) ≡ kept_by p (get_or (before ++ (x ∷ own) ∷ behind) j [])
    by (Other out same) so = kept_no p x xs out ∙ so ∙ ap (kept_by p) same
    by (Mine rest was now) so = go (p x) refl (so ∙ ap (kept_by p) now)
      where
        go : (b : Bool) → p x ≡ b → kept_by p xs ≡ kept_by p rest → kept_by p (x ∷ xs) ≡ kept_by p (get_or (before ++ (x ∷ own) ∷ behind) j [])
        go true held same = kept_yes p x xs held ∙ ap (λ (m : List A). x ∷ m) same ∙ sym (kept_yes p x rest held) ∙ ap (kept_by p) (sym was)
        go false out same = kept_no p x xs out ∙ same ∙ sym (kept_no p x rest out) ∙ ap (kept_by p) (sym was)

-- ---- the same of a function of the items

empty_map : {A B : Type 0} (f : A → B) (ls : List (List A)) → AreEmpty ls → AreEmpty (map (map f) ls)
empty_map f [] h = tt
empty_map f ([] ∷ ls) h = empty_map f ls h
empty_map f ((x ∷ xs) ∷ ls) h = absurd h

pub interleaving_map : {A B : Type 0} (f : A → B) (xs : List A) (ls : List (List A)) → IsInterleaving xs ls → IsInterleaving (map f xs) (map (map f) ls)
interleaving_map f [] ls h = empty_map f ls h
interleaving_map f (x ∷ xs) ls (before, own, behind, is, rest) = (
  map (map f) before,
  map f own,
  map (map f) behind,
  ap (map (map f)) is ∙ map-append (map f) before ((x ∷ own) ∷ behind),
  subst (IsInterleaving (map f xs)) (map-append (map f) before (own ∷ behind)) (interleaving_map f xs (before ++ own ∷ behind) rest),
)
