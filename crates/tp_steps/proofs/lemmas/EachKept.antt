-- What holds of each kept transaction, or of one of them, and what a record and a note make of it.
use Rattle.std.proofs.Common.{◌≡◌, ◌⊎◌, inl, inr, ℕ, Bool, true, false, refl, ap, sym, ◌∙◌, arith, Option, Some, List, [], ◌∷◌, ◌||◌}
use Rattle.tp_names.specs.declared.identifiers.NodeKey.{NodeKey}
use Rattle.tp_names.specs.declared.identifiers.Addr.{Addr}
use Rattle.tp_names.specs.declared.children.Child.{Child}
use Rattle.tp_names.specs.declared.outcome.Outcome.{Outcome}
use Rattle.tp_names.specs.declared.outcome.Report.{Report}
use Rattle.tp_names.specs.Same.{is_key}
use Rattle.tp_logrec.specs.declared.record.LogRec.{LogRec}
use Rattle.tp_model.specs.declared.recovery.Kept.{Kept}
use Rattle.tp_model.specs.Recovery.{put_kept, without_kept, kept_by, kept_after, not_forgotten}

-- ---- of each

pub record IsEach (P : Kept → Type 0) (Q : List Kept → Type 0) : Type 0 where
  pub none : Q []
  pub both : (k : Kept) (ks : List Kept) → P k → Q ks → Q (k ∷ ks)
  pub first : (k : Kept) (ks : List Kept) → Q (k ∷ ks) → P k
  pub rest : (k : Kept) (ks : List Kept) → Q (k ∷ ks) → Q ks

pub each_put : (P : Kept → Type 0) (Q : List Kept → Type 0) → IsEach P Q → (ks : List Kept) (x : Kept) → Q ks → ((b : Bool) → P (record x { forgot = b })) → Q (put_kept ks x)
each_put P Q e [] x h i = e.both x [] (i x.forgot) e.none
each_put P Q e (k ∷ ks) x h i = go (is_key k.key x.key) refl (each_put P Q e ks x (e.rest k ks h) i)
  where
    go : (b : Bool) → is_key k.key x.key ≡ b → Q (put_kept ks x) → Q (put_kept (k ∷ ks) x)
    go true j later = rw (j, put_kept) (e.both (record x { forgot = k.forgot }) ks (i k.forgot) (e.rest k ks h))
    go false j later = rw (j, put_kept) (e.both k (put_kept ks x) (e.first k ks h) later)

pub each_without : (P : Kept → Type 0) (Q : List Kept → Type 0) → IsEach P Q → (ks : List Kept) (j : NodeKey) → Q ks → Q (without_kept ks j)
each_without P Q e [] j h = e.none
each_without P Q e (k ∷ ks) j h = go (is_key k.key j) refl (each_without P Q e ks j (e.rest k ks h))
  where
    go : (b : Bool) → is_key k.key j ≡ b → Q (without_kept ks j) → Q (without_kept (k ∷ ks) j)
    go true i later = rw (i, without_kept) (e.rest k ks h)
    go false i later = rw (i, without_kept) (e.both k (without_kept ks j) (e.first k ks h) later)

-- where it holds of what the record keeps
pub each_after : (P : Kept → Type 0) (Q : List Kept → Type 0) → IsEach P Q → (r : Option LogRec) (ks : List Kept) → Q ks
    → ((n : ℕ) (k : NodeKey) (s : Option Addr) (o : Outcome) (p : Report) (cs : List Child) (b : Bool) → r ≡ Some (LogRec.Damage n k s o p cs) → P (record { node = n; key = k; superior = s; side = o; report = p; owed = cs; forgot = b }))
    → Q (kept_after r ks)
unfolding kept_by
each_after P Q e (Some (LogRec.Damage n k s o p cs)) ks h new = each_put P Q e ks (record { node = n; key = k; superior = s; side = o; report = p; owed = cs; forgot = false }) h (λ b. new n k s o p cs b refl)
each_after P Q e (Some (LogRec.End n k o)) ks h new = each_without P Q e ks k h
each_after P Q e _ ks h new = h

pub each_noted : (P : Kept → Type 0) (Q : List Kept → Type 0) → IsEach P Q → ((k : Kept) → P k → P (record k { forgot = false })) → (ks : List Kept) → Q ks → Q (not_forgotten ks)
each_noted P Q e f [] h = e.none
each_noted P Q e f (k ∷ ks) h = e.both (record k { forgot = false }) (not_forgotten ks) (f k (e.first k ks h)) (each_noted P Q e f ks (e.rest k ks h))

pub each_unnoted : (P : Kept → Type 0) (Q : List Kept → Type 0) → IsEach P Q → ((k : Kept) → P (record k { forgot = false }) → P k) → (ks : List Kept) → Q (not_forgotten ks) → Q ks
each_unnoted P Q e f [] h = e.none
each_unnoted P Q e f (k ∷ ks) h = e.both k ks (f k (e.first (record k { forgot = false }) (not_forgotten ks) h)) (each_unnoted P Q e f ks (e.rest (record k { forgot = false }) (not_forgotten ks) h))

-- ---- of one of them

pub record IsOne (f : Kept → Bool) (g : List Kept → Bool) : Type 0 where
  pub none : g [] ≡ false
  pub more : (k : Kept) (ks : List Kept) → g (k ∷ ks) ≡ (f k || g ks)

pub one_put : (f : Kept → Bool) (g : List Kept → Bool) → IsOne f g → ((k : Kept) (b : Bool) → f (record k { forgot = b }) ≡ f k) → (ks : List Kept) (x : Kept) → g (put_kept ks x) ≡ true → (f x || g ks) ≡ true
one_put f g e same [] x h = sym (e.more x []) ∙ h
one_put f g e same (k ∷ ks) x h = ap (λ (b : Bool). f x || b) (e.more k ks) ∙ go (is_key k.key x.key) refl (one_put f g e same ks x)
  where
    go : (b : Bool) → is_key k.key x.key ≡ b → (g (put_kept ks x) ≡ true → (f x || g ks) ≡ true) → (f x || (f k || g ks)) ≡ true
    go true i later = let all : (f x || g ks) ≡ true = ap (λ (b : Bool). b || g ks) (sym (same x k.forgot)) ∙ sym (e.more (record x { forgot = k.forgot }) ks) ∙ (rw (i, put_kept) at h) in grind (arith, all)
    go false i later = let all : (f k || g (put_kept ks x)) ≡ true = sym (e.more k (put_kept ks x)) ∙ (rw (i, put_kept) at h) in grind (arith, all, later)

pub one_without : (f : Kept → Bool) (g : List Kept → Bool) → IsOne f g → (ks : List Kept) (j : NodeKey) → g (without_kept ks j) ≡ true → g ks ≡ true
one_without f g e [] j h = h
one_without f g e (k ∷ ks) j h = e.more k ks ∙ go (is_key k.key j) refl (one_without f g e ks j)
  where
    go : (b : Bool) → is_key k.key j ≡ b → (g (without_kept ks j) ≡ true → g ks ≡ true) → (f k || g ks) ≡ true
    go true i later = let all : g ks ≡ true = rw (i, without_kept) at h in grind (arith, all)
    go false i later = let all : (f k || g (without_kept ks j)) ≡ true = sym (e.more k (without_kept ks j)) ∙ (rw (i, without_kept) at h) in grind (arith, all, later)

-- it holds of what the record keeps
pub record HoldsBy (f : Kept → Bool) (r : Option LogRec) : Type 0 where
  pub node : ℕ
  pub key : NodeKey
  pub superior : Option Addr
  pub side : Outcome
  pub report : Report
  pub owed : List Child
  pub is : r ≡ Some (LogRec.Damage node key superior side report owed)
  pub holds : f (record { node = node; key = key; superior = superior; side = side; report = report; owed = owed; forgot = false }) ≡ true

pub one_after : (f : Kept → Bool) (g : List Kept → Bool) → IsOne f g → ((k : Kept) (b : Bool) → f (record k { forgot = b }) ≡ f k) → (r : Option LogRec) (ks : List Kept) → g (kept_after r ks) ≡ true → (g ks ≡ true) ⊎ HoldsBy f r
unfolding kept_by
one_after f g e same (Some (LogRec.Damage n k s o p cs)) ks h = go (f x) refl (one_put f g e same ks x h)
  where
    x : Kept
    x = record { node = n; key = k; superior = s; side = o; report = p; owed = cs; forgot = false }

    go : (b : Bool) → f x ≡ b → (b || g ks) ≡ true → (g ks ≡ true) ⊎ HoldsBy f (Some (LogRec.Damage n k s o p cs))
    go true i all = inr (record { node = n; key = k; superior = s; side = o; report = p; owed = cs; is = refl; holds = i })
    go false i all = inl all
one_after f g e same (Some (LogRec.End n k o)) ks h = inl (one_without f g e ks k h)
one_after f g e same _ ks h = inl h

pub one_noted : (f : Kept → Bool) (g : List Kept → Bool) → IsOne f g → ((k : Kept) (b : Bool) → f (record k { forgot = b }) ≡ f k) → (ks : List Kept) → g (not_forgotten ks) ≡ g ks
one_noted f g e same [] = refl
one_noted f g e same (k ∷ ks) =
    let here = same k false in
    let later = one_noted f g e same ks in
    e.more (record k { forgot = false }) (not_forgotten ks) ∙ rw (here, later) (sym (e.more k ks))
