-- Answers side by side and under a constructor.
use Rattle.std.proofs.Common.{◌≡◌, ℕ, Bool, true, false, Option, Some, None, Result, Ok, Err, List, [], ◌∷◌, refl, ap}
use Rattle.tp_names.specs.Same.{is_name}
use Rattle.tp_model.specs.LineReading.{Form, Wrong, Outside, Well, with, both, three, one_word, two_words, no_words, Reader, read_by}
use Rattle.tp_schedule.specs.declared.line_fault.LineFault.{LineFault}
use Rattle.tp_schedule.specs.Answers.{read_as, Reads, both_answers, pair, same, word_alone, pair_alone}
use Rattle.tp_schedule.specs.Keywords.{named, behind}

-- ---- what an answer says of the form

pub well : {A : Type 0} → (x : Form A) (a : A) → Ok a ≡ read_as x → x ≡ Well a
well Wrong a e = absurd cc
well Outside a e = absurd cc
well (Well b) a e = cc

pub wrong : {A : Type 0} → (x : Form A) → Err LineFault.Word ≡ read_as x → x ≡ Wrong
wrong Wrong e = refl
wrong Outside e = absurd cc
wrong (Well b) e = absurd cc

pub outside : {A : Type 0} → (x : Form A) → Err LineFault.Number ≡ read_as x → x ≡ Outside
outside Wrong e = absurd cc
outside Outside e = refl
outside (Well b) e = absurd cc

pub not_long : {A : Type 0} → (x : Form A) → Err LineFault.Long ≡ read_as x → ⊥
not_long Wrong e = cc
not_long Outside e = cc
not_long (Well b) e = cc

-- an answer that wants no memory
pub plain : {A : Type 0} → (x : Form A) (r : Result A LineFault) → r ≡ read_as x → Reads x r
plain Wrong r e = rw e refl
plain Outside r e = rw e refl
plain (Well a) r e = rw e refl

-- ---- under a constructor

abbrev pub mapped : {A B : Type 0} → (A → B) → Result A LineFault → Result B LineFault
mapped f (Ok a) = Ok (f a)
mapped f (Err e) = Err e

with_reads : {A B : Type 0} → (f : A → B) (x : Form A) (r : Result A LineFault) → Reads x r → Reads (with f x) (mapped f r)
with_reads f x (Ok a) e = rw (well x a e) refl
with_reads f x (Err LineFault.Long) e = absurd (not_long x e)
with_reads f x (Err LineFault.Word) e = rw (wrong x e) refl
with_reads f x (Err LineFault.Number) e = rw (outside x e) refl
with_reads f x (Err LineFault.NoMemory) e = refl

-- what is read under a constructor
pub passed : {A B : Type 0} → (f : A → B) (x : Form A) (y : Form B) (r : Result A LineFault) (s : Result B LineFault)
    → y ≡ with f x → Reads x r → s ≡ mapped f r → Reads y s
passed f x y r s form reads is = rw (form, is) (with_reads f x r reads)

pub passed_plain : {A B : Type 0} → (f : A → B) (x : Form A) (y : Form B) (r : Result A LineFault) (s : Result B LineFault)
    → y ≡ with f x → r ≡ read_as x → s ≡ mapped f r → s ≡ read_as y
passed_plain f Wrong y r s form reads is = rw (form, is, reads) refl
passed_plain f Outside y r s form reads is = rw (form, is, reads) refl
passed_plain f (Well a) y r s form reads is = rw (form, is, reads) refl

-- ---- side by side

pub both_reads : {A B : Type 0} → (x : Form A) (y : Form B) (r : Result A LineFault) (s : Result B LineFault)
    → Reads x r → Reads y s → Reads (both pair x y) (both_answers r s)
both_reads x y (Ok a) (Ok b) p q = rw (well x a p, well y b q) refl
both_reads x y (Ok a) (Err LineFault.Long) p q = absurd (not_long y q)
both_reads x y (Ok a) (Err LineFault.Word) p q = rw (well x a p, wrong y q) refl
both_reads x y (Ok a) (Err LineFault.Number) p q = rw (well x a p, outside y q) refl
both_reads x y (Ok a) (Err LineFault.NoMemory) p q = refl
both_reads x y (Err LineFault.Long) s p q = absurd (not_long x p)
both_reads x y (Err LineFault.Word) (Ok b) p q = rw (wrong x p) refl
both_reads x y (Err LineFault.Word) (Err g) p q = rw (wrong x p) refl
both_reads x y (Err LineFault.Number) (Ok b) p q = rw (outside x p, well y b q) refl
both_reads x y (Err LineFault.Number) (Err LineFault.Long) p q = absurd (not_long y q)
both_reads x y (Err LineFault.Number) (Err LineFault.Word) p q = rw (outside x p, wrong y q) refl
both_reads x y (Err LineFault.Number) (Err LineFault.Number) p q = rw (outside x p, outside y q) refl
both_reads x y (Err LineFault.Number) (Err LineFault.NoMemory) p q = refl
both_reads x y (Err LineFault.NoMemory) (Ok b) p q = refl
both_reads x y (Err LineFault.NoMemory) (Err g) p q = refl

pub both_plain : {A B : Type 0} → (x : Form A) (y : Form B) → both_answers (read_as x) (read_as y) ≡ read_as (both pair x y)
both_plain Wrong Wrong = refl
both_plain Wrong Outside = refl
both_plain Wrong (Well b) = refl
both_plain Outside Wrong = refl
both_plain Outside Outside = refl
both_plain Outside (Well b) = refl
both_plain (Well a) Wrong = refl
both_plain (Well a) Outside = refl
both_plain (Well a) (Well b) = refl

pub both_form : {A B C : Type 0} → (f : A → B → C) (x : Form A) (y : Form B) → both f x y ≡ with (λ (p : A × B). f p.0 p.1) (both pair x y)
both_form f Wrong y = refl
both_form f Outside Wrong = refl
both_form f Outside Outside = refl
both_form f Outside (Well b) = refl
both_form f (Well a) Wrong = refl
both_form f (Well a) Outside = refl
both_form f (Well a) (Well b) = refl

pub three_form : {A B C D : Type 0} → (f : A → B → C → D) (x : Form A) (y : Form B) (z : Form C)
    → three f x y z ≡ with (λ (p : (A × B) × C). f p.0.0 p.0.1 p.1) (both pair (both pair x y) z)
three_form f Wrong y z = refl
three_form f Outside Wrong z = refl
three_form f Outside Outside Wrong = refl
three_form f Outside Outside Outside = refl
three_form f Outside Outside (Well c) = refl
three_form f Outside (Well b) Wrong = refl
three_form f Outside (Well b) Outside = refl
three_form f Outside (Well b) (Well c) = refl
three_form f (Well a) Wrong z = refl
three_form f (Well a) Outside Wrong = refl
three_form f (Well a) Outside Outside = refl
three_form f (Well a) Outside (Well c) = refl
three_form f (Well a) (Well b) Wrong = refl
three_form f (Well a) (Well b) Outside = refl
three_form f (Well a) (Well b) (Well c) = refl

-- ---- the words after the first

pub none_form : {A : Type 0} → (a : A) (ws : List (List ℕ)) → no_words a ws ≡ with (λ (u : Unit {0}). a) (no_words tt ws)
none_form a [] = refl
none_form a (w ∷ ws) = refl

pub one_form : {A B : Type 0} → (f : B → A) (r : List ℕ → Form B) (ws : List (List ℕ)) → one_word f r ws ≡ with f (one_word same r ws)
one_form f r [] = refl
one_form {B = B} f r (w ∷ []) = go (r w)
  where
    go : (x : Form B) → with f x ≡ with f (with same x)
    go Wrong = refl
    go Outside = refl
    go (Well b) = refl
one_form f r (v ∷ w ∷ ws) = refl

pub one_alone : {A B : Type 0} → (f : B → A) (r : List ℕ → Form B) (ws : List (List ℕ)) (w : List ℕ) → word_alone ws ≡ Some w → one_word f r ws ≡ with f (r w)
one_alone f r [] w is = absurd cc
one_alone f r (v ∷ []) w is = let e : v ≡ w = cc in rw e refl
one_alone f r (u ∷ v ∷ ws) w is = absurd cc

pub two_form : {A B C : Type 0} → (f : B → C → A) (r : List ℕ → Form B) (s : List ℕ → Form C) (ws : List (List ℕ))
    → two_words f r s ws ≡ with (λ (p : B × C). f p.0 p.1) (two_words pair r s ws)
two_form f r s [] = refl
two_form f r s (v ∷ []) = refl
two_form f r s (v ∷ w ∷ []) = both_form f (r v) (s w)
two_form f r s (v ∷ w ∷ x ∷ ws) = refl

abbrev of_pair : {A B C : Type 0} → (B → C → A) → (List ℕ → Form B) → (List ℕ → Form C) → Option (List ℕ × List ℕ) → Form A
of_pair f r s None = Wrong
of_pair f r s (Some p) = both f (r p.0) (s p.1)

pub two_alone : {A B C : Type 0} → (f : B → C → A) (r : List ℕ → Form B) (s : List ℕ → Form C) (ws : List (List ℕ)) (v w : List ℕ)
    → pair_alone ws ≡ Some (v, w) → two_words f r s ws ≡ both f (r v) (s w)
two_alone f r s [] v w is = absurd cc
two_alone f r s (a ∷ []) v w is = absurd cc
two_alone f r s (a ∷ b ∷ []) v w is = ap (λ (o : Option (List ℕ × List ℕ)). of_pair f r s o) is
two_alone f r s (a ∷ b ∷ c ∷ ws) v w is = absurd cc

-- ---- the first word

abbrev pub readers_of : {K A : Type 0} → (K → List ℕ) → (K → List (List ℕ) → Form A) → List K → List (Reader A)
readers_of text reader [] = []
readers_of text reader (k ∷ ks) = (text k, reader k) ∷ readers_of text reader ks

-- a table of values reads as the table of their texts
pub by_table : {K A : Type 0} → (text : K → List ℕ) (reader : K → List (List ℕ) → Form A) (ks : List K) (w : List ℕ) (ws : List (List ℕ))
    → read_by (readers_of text reader ks) (w ∷ ws) ≡ behind reader (named text ks w) ws
by_table text reader [] w ws = refl
by_table {K = K} {A = A} text reader (k ∷ ks) w ws = go (is_name (text k) w) (by_table text reader ks w ws)
  where
    go : (t : Bool) → read_by (readers_of text reader ks) (w ∷ ws) ≡ behind reader (named text ks w) ws
        → elim t as (λ _. Form A) [ true ↦ reader k ws | false ↦ read_by (readers_of text reader ks) (w ∷ ws) ]
        ≡ behind reader (elim t as (λ _. Option K) [ true ↦ Some k | false ↦ named text ks w ]) ws
    go true rest = refl
    go false rest = rest
