-- The lives of a list stand where their first records do.
use Rattle.std.proofs.Common.{◌≡◌, ◌<◌, ◌+◌, ℕ, zero, suc, Option, Some, None, List, [], ◌∷◌, ◌++◌, length, refl, sym, ◌∙◌, ap, arith, append-nil, Bool, true, false}
use Rattle.std.specs.Prelude.{◌==◌, cond}
use Rattle.std.proofs.lemmas.Bool.Decides.{nat_tests}
use Rattle.std.proofs.lemmas.List.{append_assoc}
use Rattle.tp_logrec.specs.declared.record.LogRec.{LogRec}
use Rattle.tp_logrec.specs.declared.owner.Owner.{Owner}
use Rattle.tp_logrec.specs.Order.{owner_of, is_owner, is_end, Life, with_record, without, lives_by, lives_after, lives_from, lives, brief_life, brief_lives}
use Rattle.tp_logrec.specs.Owners.{owner_same, owner_self, owner_either}
use Rattle.tp_logrec.specs.Lives.{Begun, begun, with_more, begun_by, begun_after, begun_from, life_of, life_at, lives_begun}

-- what is kept of keys tells the lives
pub alike : (f g : Owner → Option Begun) (i : ℕ) (rs : List LogRec) → ((o : Owner) → f o ≡ g o) → lives_begun f i rs ≡ lives_begun g i rs
alike f g i [] e = refl
alike f g i (r ∷ rs) e = go (owner_of r) (alike f g (suc i) rs e)
  where
    go : (w : Option Owner) → lives_begun f (suc i) rs ≡ lives_begun g (suc i) rs
        → elim w as (λ _. List Life) [ None ↦ [] | Some o ↦ life_of o (f o) i ] ++ lives_begun f (suc i) rs
        ≡ elim w as (λ _. List Life) [ None ↦ [] | Some o ↦ life_of o (g o) i ] ++ lives_begun g (suc i) rs
    go None h = h
    go (Some o) h = ap (λ b. life_of o b i ++ lives_begun f (suc i) rs) (e o) ∙ ap (λ w. life_of o (g o) i ++ w) h

-- ---- lives of another key stay

pub without_past : (q p : Owner) (b : Option Begun) (i : ℕ) (ls : List Life) → is_owner q p ≡ false → without (life_of q b i ++ ls) p ≡ life_of q b i ++ without ls p
without_past q p None i ls e = refl
without_past q p (Some b) i ls e = go (b.first == i)
  where
    go : (t : Bool) → without (elim t as (λ _. List Life) [ true ↦ record { owner = q; records = b.records } ∷ [] | false ↦ [] ] ++ ls) p
        ≡ elim t as (λ _. List Life) [ true ↦ record { owner = q; records = b.records } ∷ [] | false ↦ [] ] ++ without ls p
    go true = grind (arith, e)
    go false = refl

pub record_past : (q p : Owner) (b : Option Begun) (i : ℕ) (ls : List Life) (r : LogRec) → is_owner q p ≡ false → with_record (life_of q b i ++ ls) p r ≡ life_of q b i ++ with_record ls p r
record_past q p None i ls r e = refl
record_past q p (Some b) i ls r e = go (b.first == i)
  where
    go : (t : Bool) → with_record (elim t as (λ _. List Life) [ true ↦ record { owner = q; records = b.records } ∷ [] | false ↦ [] ] ++ ls) p r
        ≡ elim t as (λ _. List Life) [ true ↦ record { owner = q; records = b.records } ∷ [] | false ↦ [] ] ++ with_record ls p r
    go true = grind (arith, e)
    go false = refl

-- ---- an End

pub without_own : (q p : Owner) (b : Option Begun) (i : ℕ) (ls : List Life) → is_owner q p ≡ true → without (life_of q b i ++ ls) p ≡ without ls p
without_own q p None i ls e = refl
without_own q p (Some b) i ls e = go (b.first == i)
  where
    go : (t : Bool) → without (elim t as (λ _. List Life) [ true ↦ record { owner = q; records = b.records } ∷ [] | false ↦ [] ] ++ ls) p ≡ without ls p
    go true = grind (arith, e)
    go false = refl

pub ended : (f g : Owner → Option Begun) (p : Owner) (i : ℕ) (rs : List LogRec) → g p ≡ None → ((o : Owner) → is_owner o p ≡ false → g o ≡ f o) → without (lives_begun f i rs) p ≡ lives_begun g i rs
ended f g p i [] gone same = refl
ended f g p i (r ∷ rs) gone same = go (owner_of r) (ended f g p (suc i) rs gone same)
  where
    go : (w : Option Owner) → without (lives_begun f (suc i) rs) p ≡ lives_begun g (suc i) rs
        → without (elim w as (λ _. List Life) [ None ↦ [] | Some o ↦ life_of o (f o) i ] ++ lives_begun f (suc i) rs) p
        ≡ elim w as (λ _. List Life) [ None ↦ [] | Some o ↦ life_of o (g o) i ] ++ lives_begun g (suc i) rs
    go None h = h
    go (Some q) h = at (is_owner q p) refl
      where
        at : (t : Bool) → is_owner q p ≡ t → without (life_of q (f q) i ++ lives_begun f (suc i) rs) p ≡ life_of q (g q) i ++ lives_begun g (suc i) rs
        at true e = without_own q p (f q) i (lives_begun f (suc i) rs) e ∙ h ∙ ap (λ b. life_of q b i ++ lives_begun g (suc i) rs) (sym (ap g (owner_same q p e) ∙ gone))
        at false e = without_past q p (f q) i (lives_begun f (suc i) rs) e ∙ ap (λ w. life_of q (f q) i ++ w) h ∙ ap (λ b. life_of q b i ++ lives_begun g (suc i) rs) (sym (same q e))

-- ---- the first record of a key

pub life_elsewhere : (o : Owner) (b : Begun) (i : ℕ) → (b.first == i) ≡ false → life_of o (Some b) i ≡ []
life_elsewhere o b i e = grind (arith, e)

pub more_apart : (n i : ℕ) → i < n → (n == i) ≡ false
more_apart n i less = grind (arith, nat_tests, less)

pub less_apart : (n i : ℕ) → n < i → (n == i) ≡ false
less_apart n i less = grind (arith, nat_tests, less)

-- a life that begins after the list, or that stands in neither, is no matter
pub fresh : (f g : Owner → Option Begun) (p : Owner) (n : ℕ) (ks : List LogRec) (i : ℕ) (rs : List LogRec) → f p ≡ None → g p ≡ Some (record { first = n; records = ks })
    → ((o : Owner) → is_owner o p ≡ false → g o ≡ f o) → i + length rs ≡ n → lives_begun g i rs ≡ lives_begun f i rs
fresh f g p n ks i [] none its same here = refl
fresh f g p n ks i (r ∷ rs) none its same here = go (owner_of r) (fresh f g p n ks (suc i) rs none its same (omega arith))
  where
    go : (w : Option Owner) → lives_begun g (suc i) rs ≡ lives_begun f (suc i) rs
        → elim w as (λ _. List Life) [ None ↦ [] | Some o ↦ life_of o (g o) i ] ++ lives_begun g (suc i) rs
        ≡ elim w as (λ _. List Life) [ None ↦ [] | Some o ↦ life_of o (f o) i ] ++ lives_begun f (suc i) rs
    go None h = h
    go (Some q) h = at (is_owner q p) refl
      where
        at : (t : Bool) → is_owner q p ≡ t → life_of q (g q) i ++ lives_begun g (suc i) rs ≡ life_of q (f q) i ++ lives_begun f (suc i) rs
        at true e =
            ap (λ b. life_of q b i ++ lives_begun g (suc i) rs) (ap g (owner_same q p e) ∙ its)
            ∙ ap (λ w. w ++ lives_begun g (suc i) rs) (life_elsewhere q (record { first = n; records = ks }) i (more_apart n i (omega arith)))
            ∙ h ∙ ap (λ b. life_of q b i ++ lives_begun f (suc i) rs) (sym (ap f (owner_same q p e) ∙ none))
        at false e = ap (λ b. life_of q b i ++ lives_begun g (suc i) rs) (same q e) ∙ ap (λ w. life_of q (f q) i ++ w) h

pub appended : (f : Owner → Option Begun) (p : Owner) (i : ℕ) (rs : List LogRec) (r : LogRec) → f p ≡ None
    → with_record (lives_begun f i rs) p r ≡ lives_begun f i rs ++ (let l : Life = record { owner = p; records = r ∷ [] } in l) ∷ []
appended f p i [] r none = refl
appended f p i (q ∷ rs) r none = go (owner_of q) (appended f p (suc i) rs r none)
  where
    go : (w : Option Owner) → with_record (lives_begun f (suc i) rs) p r ≡ lives_begun f (suc i) rs ++ (let l : Life = record { owner = p; records = r ∷ [] } in l) ∷ []
        → with_record (elim w as (λ _. List Life) [ None ↦ [] | Some o ↦ life_of o (f o) i ] ++ lives_begun f (suc i) rs) p r
        ≡ (elim w as (λ _. List Life) [ None ↦ [] | Some o ↦ life_of o (f o) i ] ++ lives_begun f (suc i) rs) ++ (let l : Life = record { owner = p; records = r ∷ [] } in l) ∷ []
    go None h = h
    go (Some o) h = at (is_owner o p) refl
      where
        at : (t : Bool) → is_owner o p ≡ t → with_record (life_of o (f o) i ++ lives_begun f (suc i) rs) p r
            ≡ (life_of o (f o) i ++ lives_begun f (suc i) rs) ++ (let l : Life = record { owner = p; records = r ∷ [] } in l) ∷ []
        at true e = rw (ap f (owner_same o p e) ∙ none) h
        at false e = record_past o p (f o) i (lives_begun f (suc i) rs) r e ∙ ap (λ w. life_of o (f o) i ++ w) h ∙ sym (append_assoc (life_of o (f o) i) (lives_begun f (suc i) rs) ((let l : Life = record { owner = p; records = r ∷ [] } in l) ∷ []))

-- ---- a further record of a key

-- the record at that place is of the key
abbrev pub IsAt : Owner → List LogRec → ℕ → Type 0
IsAt o [] k = ⊥
IsAt o (r ∷ rs) zero = owner_of r ≡ Some o
IsAt o (r ∷ rs) (suc k) = IsAt o rs k

pub at_less : (o : Owner) (rs : List LogRec) (k : ℕ) → IsAt o rs k → k < length rs
at_less o [] k here = absurd here
at_less o (r ∷ rs) zero here = omega arith
at_less o (r ∷ rs) (suc k) here = let less = at_less o rs k here in omega arith

pub at_more : (o : Owner) (rs qs : List LogRec) (k : ℕ) → IsAt o rs k → IsAt o (rs ++ qs) k
at_more o [] qs k here = absurd here
at_more o (r ∷ rs) qs zero here = here
at_more o (r ∷ rs) qs (suc k) here = at_more o rs qs k here

pub at_end : (o : Owner) (rs : List LogRec) (r : LogRec) → owner_of r ≡ Some o → IsAt o (rs ++ r ∷ []) (length rs)
at_end o [] r its = its
at_end o (q ∷ rs) r its = at_end o rs r its

-- the key's life began before
pub passed : (f g : Owner → Option Begun) (p : Owner) (b c : Begun) (i : ℕ) (rs : List LogRec) → f p ≡ Some b → g p ≡ Some c → c.first ≡ b.first
    → ((o : Owner) → is_owner o p ≡ false → g o ≡ f o) → b.first < i → lives_begun g i rs ≡ lives_begun f i rs
passed f g p b c i [] was its first same less = refl
passed f g p b c i (r ∷ rs) was its first same less = go (owner_of r) (passed f g p b c (suc i) rs was its first same (omega arith))
  where
    go : (w : Option Owner) → lives_begun g (suc i) rs ≡ lives_begun f (suc i) rs
        → elim w as (λ _. List Life) [ None ↦ [] | Some o ↦ life_of o (g o) i ] ++ lives_begun g (suc i) rs
        ≡ elim w as (λ _. List Life) [ None ↦ [] | Some o ↦ life_of o (f o) i ] ++ lives_begun f (suc i) rs
    go None h = h
    go (Some q) h = at (is_owner q p) refl
      where
        at : (t : Bool) → is_owner q p ≡ t → life_of q (g q) i ++ lives_begun g (suc i) rs ≡ life_of q (f q) i ++ lives_begun f (suc i) rs
        at true e =
            ap (λ x. life_of q x i ++ lives_begun g (suc i) rs) (ap g (owner_same q p e) ∙ its)
            ∙ ap (λ w. w ++ lives_begun g (suc i) rs) (life_elsewhere q c i (less_apart c.first i (omega arith)))
            ∙ h
            ∙ ap (λ w. w ++ lives_begun f (suc i) rs) (sym (life_elsewhere q b i (less_apart b.first i less)))
            ∙ ap (λ x. life_of q x i ++ lives_begun f (suc i) rs) (sym (ap f (owner_same q p e) ∙ was))
        at false e = ap (λ x. life_of q x i ++ lives_begun g (suc i) rs) (same q e) ∙ ap (λ w. life_of q (f q) i ++ w) h

pub life_here : (o : Owner) (b : Begun) (i : ℕ) → b.first ≡ i → life_of o (Some b) i ≡ (let l : Life = record { owner = o; records = b.records } in l) ∷ []
life_here o b i e = grind (arith, nat_tests, e)

pub record_own : (p : Owner) (ks : List LogRec) (ls : List Life) (r : LogRec) → with_record ((let l : Life = record { owner = p; records = ks } in l) ∷ ls) p r
    ≡ (let l : Life = record { owner = p; records = ks ++ r ∷ [] } in l) ∷ ls
record_own p ks ls r = let own = owner_self p in grind (arith, own)

-- it begins in the list, k places on
pub goes_on : (f g : Owner → Option Begun) (p : Owner) (b c : Begun) (k i : ℕ) (rs : List LogRec) (r : LogRec) → f p ≡ Some b → g p ≡ Some c → c.first ≡ b.first
    → c.records ≡ b.records ++ r ∷ [] → ((o : Owner) → is_owner o p ≡ false → g o ≡ f o) → b.first ≡ i + k → IsAt p rs k
    → with_record (lives_begun f i rs) p r ≡ lives_begun g i rs
goes_on f g p b c k i [] r was its first more same place here = absurd here
goes_on f g p b c zero i (q ∷ rs) r was its first more same place here =
    ap (λ w. with_record (elim w as (λ _. List Life) [ None ↦ [] | Some o ↦ life_of o (f o) i ] ++ lives_begun f (suc i) rs) p r) here
    ∙ ap (λ x. with_record (life_of p x i ++ lives_begun f (suc i) rs) p r) was
    ∙ ap (λ w. with_record (w ++ lives_begun f (suc i) rs) p r) (life_here p b i (omega arith))
    ∙ record_own p b.records (lives_begun f (suc i) rs) r
    ∙ ap (λ w. (let l : Life = record { owner = p; records = w } in l) ∷ lives_begun f (suc i) rs) (sym more)
    ∙ ap (λ w. (let l : Life = record { owner = p; records = c.records } in l) ∷ w) (sym (passed f g p b c (suc i) rs was its first same (omega arith)))
    ∙ ap (λ w. w ++ lives_begun g (suc i) rs) (sym (life_here p c i (omega arith)))
    ∙ ap (λ x. life_of p x i ++ lives_begun g (suc i) rs) (sym its)
    ∙ ap (λ w. elim w as (λ _. List Life) [ None ↦ [] | Some o ↦ life_of o (g o) i ] ++ lives_begun g (suc i) rs) (sym here)
goes_on f g p b c (suc k) i (q ∷ rs) r was its first more same place here = go (owner_of q) (goes_on f g p b c k (suc i) rs r was its first more same (omega arith) here)
  where
    go : (w : Option Owner) → with_record (lives_begun f (suc i) rs) p r ≡ lives_begun g (suc i) rs
        → with_record (elim w as (λ _. List Life) [ None ↦ [] | Some o ↦ life_of o (f o) i ] ++ lives_begun f (suc i) rs) p r
        ≡ elim w as (λ _. List Life) [ None ↦ [] | Some o ↦ life_of o (g o) i ] ++ lives_begun g (suc i) rs
    go None h = h
    go (Some o) h = at (is_owner o p) refl
      where
        at : (t : Bool) → is_owner o p ≡ t → with_record (life_of o (f o) i ++ lives_begun f (suc i) rs) p r ≡ life_of o (g o) i ++ lives_begun g (suc i) rs
        at true e =
            ap (λ x. with_record (life_of o x i ++ lives_begun f (suc i) rs) p r) (ap f (owner_same o p e) ∙ was)
            ∙ ap (λ w. with_record (w ++ lives_begun f (suc i) rs) p r) (life_elsewhere o b i (more_apart b.first i (omega arith)))
            ∙ h
            ∙ ap (λ w. w ++ lives_begun g (suc i) rs) (sym (life_elsewhere o c i (more_apart c.first i (omega arith))))
            ∙ ap (λ x. life_of o x i ++ lives_begun g (suc i) rs) (sym (ap g (owner_same o p e) ∙ its))
        at false e = record_past o p (f o) i (lives_begun f (suc i) rs) r e ∙ ap (λ w. life_of o (f o) i ++ w) h ∙ ap (λ x. life_of o x i ++ lives_begun g (suc i) rs) (sym (same o e))

-- ---- one record more

pub by_append : (f : Owner → Option Begun) (i : ℕ) (rs : List LogRec) (r : LogRec) → lives_begun f i (rs ++ r ∷ []) ≡ lives_begun f i rs ++ life_at f (i + length rs) r
by_append f i [] r = append-nil (life_at f i r) ∙ ap (λ n. life_at f n r) (omega arith)
by_append f i (q ∷ rs) r =
    ap (λ w. life_at f i q ++ w) (by_append f (suc i) rs r ∙ ap (λ n. lives_begun f (suc i) rs ++ life_at f n r) (omega arith))
    ∙ sym (append_assoc (life_at f i q) (lives_begun f (suc i) rs) (life_at f (i + suc (length rs)) r))

pub one_longer : (rs : List LogRec) (r : LogRec) → length (rs ++ r ∷ []) ≡ suc (length rs)
one_longer [] r = refl
one_longer (q ∷ rs) r = ap suc (one_longer rs r)

pub begun_first : (a b : Begun) → Some a ≡ Some b → a.first ≡ b.first
begun_first a b e = ap (λ (w : Option Begun). elim w as (λ _. ℕ) [ None ↦ 0 | Some x ↦ x.first ]) e

pub by_last : (f : Owner → Option Begun) (rs : List LogRec) (r : LogRec) → lives_begun f 0 (rs ++ r ∷ []) ≡ lives_begun f 0 rs ++ life_at f (length rs) r
by_last f rs r = by_append f 0 rs r ∙ ap (λ n. lives_begun f 0 rs ++ life_at f n r) (omega arith)

-- each life begins with a record of its key
abbrev pub AllBegin : (Owner → Option Begun) → List LogRec → Type 0
AllBegin f rs = (o : Owner) (b : Begun) → f o ≡ Some b → IsAt o rs b.first

abbrev pub IsAfter : (Owner → Option Begun) → ℕ → LogRec → (Owner → Option Begun) → Type 0
IsAfter f n r g = (o : Owner) → g o ≡ begun_after n (f o) o r

pub after_own : (f g : Owner → Option Begun) (n : ℕ) (r : LogRec) (p : Owner) → IsAfter f n r g → owner_of r ≡ Some p → g p ≡ begun_by n (f p) r
after_own f g n r p after e = let own = owner_self p in let told = after p in grind (arith, e, own, told)

pub after_else : (f g : Owner → Option Begun) (n : ℕ) (r : LogRec) (p : Owner) → IsAfter f n r g → owner_of r ≡ Some p → (o : Owner) → is_owner o p ≡ false → g o ≡ f o
after_else f g n r p after e o apart = let other : is_owner p o ≡ false = owner_either p o ∙ apart in let told = after o in grind (arith, e, other, told)

pub after_none : (f g : Owner → Option Begun) (n : ℕ) (r : LogRec) → IsAfter f n r g → owner_of r ≡ None → (o : Owner) → g o ≡ f o
after_none f g n r after e o = let told = after o in grind (arith, e, told)

-- the last of them
pub at_last : (g : Owner → Option Begun) (rs : List LogRec) (r : LogRec) (p : Owner) → owner_of r ≡ Some p → lives_begun g 0 (rs ++ r ∷ []) ≡ lives_begun g 0 rs ++ life_of p (g p) (length rs)
at_last g rs r p e = by_last g rs r ∙ ap (λ w. lives_begun g 0 rs ++ elim w as (λ _. List Life) [ None ↦ [] | Some o ↦ life_of o (g o) (length rs) ]) e

pub step_ended : (f g : Owner → Option Begun) (rs : List LogRec) (r : LogRec) (p : Owner) → IsAfter f (length rs) r g → owner_of r ≡ Some p → is_end r ≡ true
    → without (lives_begun f 0 rs) p ≡ lives_begun g 0 (rs ++ r ∷ [])
step_ended f g rs r p after e end =
    let gone : g p ≡ None = after_own f g (length rs) r p after e ∙ ap (λ t. elim t as (λ _. Option Begun) [ true ↦ None | false ↦ Some (with_more (length rs) (f p) r) ]) end in
    ended f g p 0 rs gone (after_else f g (length rs) r p after e)
    ∙ sym (append-nil (lives_begun g 0 rs))
    ∙ ap (λ b. lives_begun g 0 rs ++ life_of p b (length rs)) (sym gone)
    ∙ sym (at_last g rs r p e)

pub step_more : (f g : Owner → Option Begun) (rs : List LogRec) (r : LogRec) (p : Owner) (was : Option Begun) → AllBegin f rs → IsAfter f (length rs) r g → owner_of r ≡ Some p → is_end r ≡ false
    → f p ≡ was → with_record (lives_begun f 0 rs) p r ≡ lives_begun g 0 (rs ++ r ∷ [])
step_more f g rs r p None begin after e end was =
    let n : ℕ = length rs in
    let its : g p ≡ Some (record { first = n; records = r ∷ [] }) = after_own f g n r p after e ∙ ap (λ t. elim t as (λ _. Option Begun) [ true ↦ None | false ↦ Some (with_more n (f p) r) ]) end ∙ ap (λ b. Some (with_more n b r)) was in
    appended f p 0 rs r was
    ∙ ap (λ w. w ++ (let l : Life = record { owner = p; records = r ∷ [] } in l) ∷ []) (sym (fresh f g p n (r ∷ []) 0 rs was its (after_else f g n r p after e) (omega arith)))
    ∙ ap (λ w. lives_begun g 0 rs ++ w) (sym (life_here p (record { first = n; records = r ∷ [] }) n refl))
    ∙ ap (λ b. lives_begun g 0 rs ++ life_of p b n) (sym its)
    ∙ sym (at_last g rs r p e)
step_more f g rs r p (Some b) begin after e end was =
    let n : ℕ = length rs in
    let c : Begun = record { first = b.first; records = b.records ++ r ∷ [] } in
    let its : g p ≡ Some c = after_own f g n r p after e ∙ ap (λ t. elim t as (λ _. Option Begun) [ true ↦ None | false ↦ Some (with_more n (f p) r) ]) end ∙ ap (λ x. Some (with_more n x r)) was in
    goes_on f g p b c b.first 0 rs r was its refl refl (after_else f g n r p after e) (omega arith) (begin p b was)
    ∙ sym (append-nil (lives_begun g 0 rs))
    ∙ ap (λ w. lives_begun g 0 rs ++ w) (sym (life_elsewhere p c n (less_apart b.first n (at_less p rs b.first (begin p b was)))))
    ∙ ap (λ x. lives_begun g 0 rs ++ life_of p x n) (sym its)
    ∙ sym (at_last g rs r p e)

pub step : (f g : Owner → Option Begun) (rs : List LogRec) (r : LogRec) → AllBegin f rs → IsAfter f (length rs) r g → lives_after (lives_begun f 0 rs) r ≡ lives_begun g 0 (rs ++ r ∷ [])
step f g rs r begin after = go (owner_of r) refl
  where
    go : (w : Option Owner) → owner_of r ≡ w → lives_after (lives_begun f 0 rs) r ≡ lives_begun g 0 (rs ++ r ∷ [])
    go None e =
        ap (λ w. elim w as (λ _. List Life) [ None ↦ lives_begun f 0 rs | Some o ↦ lives_by (lives_begun f 0 rs) o r ]) e
        ∙ sym (alike g f 0 rs (after_none f g (length rs) r after e))
        ∙ sym (append-nil (lives_begun g 0 rs))
        ∙ ap (λ w. lives_begun g 0 rs ++ elim w as (λ _. List Life) [ None ↦ [] | Some o ↦ life_of o (g o) (length rs) ]) (sym e)
        ∙ sym (by_last g rs r)
    go (Some p) e = ap (λ w. elim w as (λ _. List Life) [ None ↦ lives_begun f 0 rs | Some o ↦ lives_by (lives_begun f 0 rs) o r ]) e ∙ by (is_end r) refl
      where
        by : (t : Bool) → is_end r ≡ t → lives_by (lives_begun f 0 rs) p r ≡ lives_begun g 0 (rs ++ r ∷ [])
        by true end = ap (λ t. elim t as (λ _. List Life) [ true ↦ without (lives_begun f 0 rs) p | false ↦ with_record (lives_begun f 0 rs) p r ]) end ∙ step_ended f g rs r p after e end
        by false end = ap (λ t. elim t as (λ _. List Life) [ true ↦ without (lives_begun f 0 rs) p | false ↦ with_record (lives_begun f 0 rs) p r ]) end ∙ step_more f g rs r p (f p) begin after e end refl

-- what is kept goes on to begin with a record of its key
pub begin_more : (f g : Owner → Option Begun) (rs : List LogRec) (r : LogRec) → AllBegin f rs → IsAfter f (length rs) r g → AllBegin g (rs ++ r ∷ [])
begin_more f g rs r begin after o b its = go (owner_of r) refl
  where
    n : ℕ
    n = length rs

    go : (w : Option Owner) → owner_of r ≡ w → IsAt o (rs ++ r ∷ []) b.first
    go None e = at_more o rs (r ∷ []) b.first (begin o b (sym (after_none f g n r after e o) ∙ its))
    go (Some p) e = by (is_owner o p) refl
      where
        by : (t : Bool) → is_owner o p ≡ t → IsAt o (rs ++ r ∷ []) b.first
        by false apart = at_more o rs (r ∷ []) b.first (begin o b (sym (after_else f g n r p after e o apart) ∙ its))
        by true same = own (is_end r) (f o) refl refl
          where
            mine : owner_of r ≡ Some o
            mine = e ∙ ap (λ x. Some x) (sym (owner_same o p same))

            own : (t : Bool) (was : Option Begun) → is_end r ≡ t → f o ≡ was → IsAt o (rs ++ r ∷ []) b.first
            own true was end before = absurd (let clash : None ≡ Some b = sym (after_own f g n r o after mine ∙ ap (λ t. elim t as (λ _. Option Begun) [ true ↦ None | false ↦ Some (with_more n (f o) r) ]) end) ∙ its in cc)
            own false None end before =
                let first : b.first ≡ n = begun_first b (record { first = n; records = r ∷ [] }) (sym its ∙ after_own f g n r o after mine ∙ ap (λ t. elim t as (λ _. Option Begun) [ true ↦ None | false ↦ Some (with_more n (f o) r) ]) end ∙ ap (λ x. Some (with_more n x r)) before) in
                rw first (at_end o rs r mine)
            own false (Some d) end before =
                let first : b.first ≡ d.first = begun_first b (record { first = d.first; records = d.records ++ r ∷ [] }) (sym its ∙ after_own f g n r o after mine ∙ ap (λ t. elim t as (λ _. Option Begun) [ true ↦ None | false ↦ Some (with_more n (f o) r) ]) end ∙ ap (λ x. Some (with_more n x r)) before) in
                rw first (at_more o rs (r ∷ []) d.first (begin o d before))

-- ---- the whole list

pub told_from : (f g : Owner → Option Begun) (ps rs : List LogRec) → AllBegin f ps → ((o : Owner) → g o ≡ begun_from (length ps) (f o) o rs) → lives_from (lives_begun f 0 ps) rs ≡ lives_begun g 0 (ps ++ rs)
told_from f g ps [] begin told = sym (alike g f 0 ps told) ∙ ap (lives_begun g 0) (sym (append-nil ps))
told_from f g ps (r ∷ rs) begin told =
    let h : Owner → Option Begun = λ o. begun_after (length ps) (f o) o r in
    ap (λ w. lives_from w rs) (step f h ps r begin (λ o. refl))
    ∙ told_from h g (ps ++ r ∷ []) rs (begin_more f h ps r begin (λ o. refl)) (λ o. told o ∙ ap (λ n. begun_from n (h o) o rs) (sym (one_longer ps r)))
    ∙ ap (lives_begun g 0) (append_assoc ps (r ∷ []) rs)

-- The lives of a list, by what is kept of each key after all of it.
pub lives_are : (g : Owner → Option Begun) (rs : List LogRec) → ((o : Owner) → g o ≡ begun_from 0 None o rs) → lives rs ≡ lives_begun g 0 rs
lives_are g rs told = told_from (λ o. None) g [] rs (λ o b e. absurd (let clash : None ≡ Some b = e in cc)) told

pub brief_joined : (ls ms : List Life) → brief_lives (ls ++ ms) ≡ brief_lives ls ++ brief_lives ms
brief_joined [] ms = refl
brief_joined (l ∷ ls) ms = ap (λ w. brief_life l.records ++ w) (brief_joined ls ms) ∙ sym (append_assoc (brief_life l.records) (brief_lives ls) (brief_lives ms))

pub brief_of_lives : (ks : List (Owner × Begun)) (rs : List LogRec) → ((o : Owner) → begun ks o ≡ begun_from 0 None o rs) → brief_lives (lives_begun (begun ks) 0 rs) ≡ brief_lives (lives rs)
brief_of_lives ks rs told = ap brief_lives (sym (lives_are (begun ks) rs told))

-- ---- what the table has of a key after its record

pub after_end : (i : ℕ) (ks : List (Owner × Begun)) (p o : Owner) (r : LogRec) → owner_of r ≡ Some p → is_end r ≡ true → cond (is_owner p o) None (begun ks o) ≡ begun_after i (begun ks o) o r
after_end i ks p o r of e = go (is_owner p o) refl
  where
    go : (b : Bool) → is_owner p o ≡ b → cond (is_owner p o) None (begun ks o) ≡ begun_after i (begun ks o) o r
    go true f = grind (arith, of, e, f)
    go false f = grind (arith, of, e, f)

pub after_put : (i : ℕ) (ks : List (Owner × Begun)) (p o : Owner) (r : LogRec) → owner_of r ≡ Some p → is_end r ≡ false
    → cond (is_owner p o) (Some (with_more i (begun ks p) r)) (begun ks o) ≡ begun_after i (begun ks o) o r
after_put i ks p o r of e = go (is_owner p o) refl
  where
    go : (b : Bool) → is_owner p o ≡ b → cond (is_owner p o) (Some (with_more i (begun ks p) r)) (begun ks o) ≡ begun_after i (begun ks o) o r
    go true f = let same : begun ks p ≡ begun ks o = ap (begun ks) (owner_same p o f) in grind (arith, of, e, f, same)
    go false f = grind (arith, of, e, f)
