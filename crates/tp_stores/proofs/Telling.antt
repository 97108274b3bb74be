-- What the outputs of one event tell, and what is heard of it.
use Rattle.std.proofs.Common.{◌≡◌, ◌⊎◌, ◌&&◌, ◌||◌, ℕ, Bool, true, false, refl, ap, sym, ◌∙◌, Option, Some, List, [], ◌∷◌, ◌++◌, inl, inr}
use Rattle.tp_names.specs.declared.identifiers.Aaid.{Aaid}
use Rattle.tp_records.specs.declared.indication.Indication.{Indication}
use Rattle.tp_model.specs.Parts.{Out, Tell, Send}
use Rattle.tp_steps.specs.Trees.{out_tells}
use Rattle.tp_steps.proofs.lemmas.Equality.{or_case, and_left, and_right}
use Rattle.tp_encodable.specs.Begins.{is_begin_told}
use Rattle.tp_stores.specs.Stores.{told_in, IsHeardOf}
use Rattle.tp_stores.proofs.Hearing.{begun_by, last_begun, is_of, hears, or_first, or_over}

-- some indication passes the test
abbrev pub some : (Indication → Bool) → List Indication → Bool
some f [] = false
some f (i ∷ is) = f i || some f is

pub some_told : (f : Indication → Bool) (outs : List Out) → some f (told_in outs) ≡ out_tells f outs
some_told f [] = refl
some_told f (Tell i ∷ outs) = ap (λ (b : Bool). f i || b) (some_told f outs)
some_told f (Send to r ∷ outs) = some_told f outs

some_front : (f : Indication → Bool) (xs ys : List Indication) → some f xs ≡ true → some f (xs ++ ys) ≡ true
some_front f [] ys h = absurd (cc (h))
some_front f (i ∷ xs) ys h = elim (or_case (f i) (some f xs) h) [ inl k ↦ or_first (f i) (some f (xs ++ ys)) k | inr k ↦ or_over (f i) (some f (xs ++ ys)) (some_front f xs ys k) ]

-- what is heard was told
pub heard_some : (f : Indication → Bool) (stops : Bool) (told heard : List Indication) → IsHeardOf stops told heard → some f heard ≡ true → some f told ≡ true
heard_some f false told heard h i = ap (some f) (sym h) ∙ i
heard_some f true told heard h i = ap (some f) h.1 ∙ some_front f heard h.0 i

pub heard_none : (f : Indication → Bool) (stops : Bool) (told heard : List Indication) → IsHeardOf stops told heard → some f told ≡ false → some f heard ≡ false
heard_none f stops told heard h i = go (some f heard) refl
  where
    go : (b : Bool) → some f heard ≡ b → some f heard ≡ false
    go true j = absurd (let yes = heard_some f stops told heard h j in cc (i, yes))
    go false j = j

-- the branch that began last does so still, where no Begin is heard
pub last_quiet : (c : Option Aaid) (is : List Indication) → some is_begin_told is ≡ false → last_begun c is ≡ c
last_quiet c [] h = refl
last_quiet c (Indication.BeginTransaction p t ∷ is) h = absurd (cc (h))
last_quiet c (i ∷ is) h = last_quiet c is h

-- what is heard of a tree passes the test
pub hears_some : (f : Indication → Bool) (t : Aaid) (c : Option Aaid) (is : List Indication) → hears f t c is ≡ true → some f is ≡ true
hears_some f t c [] h = absurd (cc (h))
hears_some f t c (i ∷ is) h =
    elim (or_case (f i && is_of t c) (hears f t (begun_by c i) is) h) [
      | inl k ↦ or_first (f i) (some f is) (and_left (f i) (is_of t c) k)
      | inr k ↦ or_over (f i) (some f is) (hears_some f t (begun_by c i) is k)
    ]

-- it is of the branch that began before, where no Begin is heard
pub hears_of : (f : Indication → Bool) (t : Aaid) (c : Option Aaid) (is : List Indication) → some is_begin_told is ≡ false → hears f t c is ≡ true → is_of t c ≡ true
hears_of f t c [] q h = absurd (cc (h))
hears_of f t c (Indication.BeginTransaction p u ∷ is) q h = absurd (cc (q))
hears_of f t c (i ∷ is) q h = elim (or_case (f i && is_of t c) (hears f t c is) h) [ inl k ↦ and_right (f i) (is_of t c) k | inr k ↦ hears_of f t c is q k ]

-- what passes one test passes the other
pub some_weaker : (f g : Indication → Bool) → ((i : Indication) → f i ≡ true → g i ≡ true) → (is : List Indication) → some f is ≡ true → some g is ≡ true
some_weaker f g weaker [] h = absurd (cc (h))
some_weaker f g weaker (i ∷ is) h = elim (or_case (f i) (some f is) h) [ inl k ↦ or_first (g i) (some g is) (weaker i k) | inr k ↦ or_over (g i) (some g is) (some_weaker f g weaker is k) ]

-- ---- a Begin that is told first, and of no other

-- it is heard, or nothing is, where the site stops
pub begin_heard : (stops : Bool) (c : Option Aaid) (p : ℕ) (t : Aaid) (rest heard : List Indication) → IsHeardOf stops (Indication.BeginTransaction p t ∷ rest) heard → some is_begin_told rest ≡ false
    → (last_begun c heard ≡ Some t) ⊎ (stops ≡ true)
begin_heard false c p t rest heard h q = inl (ap (last_begun c) h ∙ last_quiet (Some t) rest q)
begin_heard true c p t rest heard h q = inr refl
