-- Answers that members gave, one list of them after another.
use Rattle.std.proofs.Common.{◌≡◌, ◌≢◌, ◌≤◌, ◌<◌, ◌-◌, ◌++◌, ◌==◌, ℕ, zero, suc, Bool, true, false, refl, ap, sym, ◌∙◌, subst, arith, append_assoc, Option, None, Result, Ok, Err, List, [], ◌∷◌, length, slice_index_or, slice_set}
use Rattle.std.proofs.lemmas.Bool.Decides.{nat_tests}
use Rattle.std.proofs.lemmas.List.{get_or-set_same, get_or-set_other, get_or_default}
use Rattle.std.specs.Prelude.{IfOk}
use Rattle.tp_names.specs.declared.no_memory.NoMemory.{NoMemory}
use Rattle.tp_records.specs.declared.request.Request.{Request}
use Rattle.tp_records.specs.declared.indication.Indication.{Indication}
use Rattle.tp_records.specs.Answers.{Answer}
use Rattle.tp_model.specs.Transcript.{Put, answers_of}
use Rattle.tp_world_members.specs.Members.{is_there, slot_at, may, silent, Gave}

less : (m : ℕ) → m ≡ suc m - 1
less m = omega arith

-- ---- one list after another

pub answers_joined : (k : ℕ) (ps qs : List Put) (xs ys : List (Option Request)) → length xs ≡ length ps → answers_of k (ps ++ qs) (xs ++ ys) ≡ answers_of k ps xs ++ answers_of k qs ys
answers_joined k [] qs [] ys h = refl
answers_joined k [] qs (x ∷ xs) ys h = absurd cc
answers_joined k (p ∷ ps) qs [] ys h = absurd cc
answers_joined k (p ∷ ps) qs (x ∷ xs) ys h = go (p.member == k) (answers_joined k ps qs xs ys (omega (arith, h)))
  where
    one : Answer
    one = record { node = p.node; indication = p.indication; request = x }

    go : (b : Bool) → answers_of k (ps ++ qs) (xs ++ ys) ≡ answers_of k ps xs ++ answers_of k qs ys
        → (elim b as (λ _. List Answer) [ true ↦ one ∷ answers_of k (ps ++ qs) (xs ++ ys) | false ↦ answers_of k (ps ++ qs) (xs ++ ys) ])
        ≡ (elim b as (λ _. List Answer) [ true ↦ one ∷ answers_of k ps xs | false ↦ answers_of k ps xs ]) ++ answers_of k qs ys
    go true e = ap (λ (l : List Answer). one ∷ l) e
    go false e = e

pub silent_length : (ps : List Put) → length (silent ps) ≡ length ps
silent_length [] = refl
silent_length (p ∷ ps) = ap (λ (k : ℕ). suc k) (silent_length ps)

pub silent_joined : (ps qs : List Put) → silent (ps ++ qs) ≡ silent ps ++ silent qs
silent_joined [] qs = refl
silent_joined (p ∷ ps) qs = ap (λ (l : List (Option Request)). None ∷ l) (silent_joined ps qs)

-- ---- what the members gave

pub gave_none : {M : Type 0} (allowed : M → List Answer → Type 0) (xs : List (Option M)) → Gave allowed xs xs [] []
gave_none allowed xs k rest h = h

pub gave_more : {M : Type 0} (allowed : M → List Answer → Type 0) (a b c : List (Option M)) (ps qs : List Put) (xs ys : List (Option Request)) → length xs ≡ length ps → Gave allowed a b ps xs → Gave allowed b c qs ys
    → Gave allowed a c (ps ++ qs) (xs ++ ys)
gave_more allowed a b c ps qs xs ys each first then k rest h =
    subst (may allowed (slot_at a k)) (sym (append_assoc (answers_of k ps xs) (answers_of k qs ys) rest) ∙ ap (λ (l : List Answer). l ++ rest) (sym (answers_joined k ps qs xs ys each)))
    (first k (answers_of k qs ys ++ rest) (then k rest h))

-- ---- one member

at_place : {M : Type 0} (xs : List (Option M)) (m : ℕ) (x : Option M) → zero < m → m ≤ length xs → x ≡ slice_index_or xs (m - 1) x → slot_at xs m ≡ x
at_place xs zero x h i e = absurd (omega (arith, h))
at_place xs (suc m) x h i e = get_or_default xs m None x (omega (arith, i)) ∙ ap (λ (k : ℕ). slice_index_or xs k x) (less m) ∙ sym e

set_same : {M : Type 0} (xs : List (Option M)) (m : ℕ) (x : Option M) → zero < m → m ≤ length xs → slot_at (slice_set xs (m - 1) x) m ≡ x
set_same xs zero x h i = absurd (omega (arith, h))
set_same xs (suc m) x h i = ap (λ (k : ℕ). slice_index_or (slice_set xs k x) m None) (sym (less m)) ∙ get_or-set_same xs m x None (omega (arith, i))

set_other : {M : Type 0} (xs : List (Option M)) (m k : ℕ) (x : Option M) → zero < m → k ≢ m → slot_at (slice_set xs (m - 1) x) k ≡ slot_at xs k
set_other xs zero k x h i = absurd (omega (arith, h))
set_other xs (suc m) zero x h i = refl
set_other xs (suc m) (suc k) x h i = ap (λ (j : ℕ). slice_index_or (slice_set xs j x) k None) (sym (less m)) ∙ get_or-set_other xs m k x None (λ e. i (ap (λ (n : ℕ). suc n) e))

gave_one : {M : Type 0} (allowed : M → List Answer → Type 0) (xs : List (Option M)) (m node : ℕ) (i : Indication) (a : Option Request) (old x : Option M) → zero < m → m ≤ length xs → slot_at xs m ≡ old
    → ((rest : List Answer) → may allowed x rest → may allowed old (record { node = node; indication = i; request = a } ∷ rest))
    → Gave allowed xs (slice_set xs (m - 1) x) (record { member = m; node = node; indication = i } ∷ []) (a ∷ [])
gave_one {M} allowed xs m node i a old x some within is says k rest h = go (m == k) refl
  where
    one : Answer
    one = record { node = node; indication = i; request = a }

    go : (b : Bool) → (m == k) ≡ b → may allowed (slot_at xs k) ((elim b as (λ _. List Answer) [ true ↦ one ∷ [] | false ↦ [] ]) ++ rest)
    go true e =
        let same : m ≡ k = grind (arith, nat_tests, e) in
        subst (λ (n : ℕ). may allowed (slot_at xs n) (one ∷ rest)) same
        (subst (λ (s : Option M). may allowed s (one ∷ rest)) (sym is)
        (says rest (subst (λ (s : Option M). may allowed s rest) (ap (slot_at (slice_set xs (m - 1) x)) (sym same) ∙ set_same xs m x some within) h)))
    go false e = subst (λ (s : Option M). may allowed s rest) (set_other xs m k x some (grind (arith, nat_tests, e))) h

pub gave_put : {M : Type 0} (allowed : M → List Answer → Type 0) (xs : List (Option M)) (m node : ℕ) (i : Indication) (r : Result (Option Request) NoMemory) (old x : Option M) → zero < m → m ≤ length xs
    → old ≡ slice_index_or xs (m - 1) old
    → (is_there old ≡ true → IfOk r (λ a. (rest : List Answer) → may allowed x rest → may allowed old (record { node = node; indication = i; request = a } ∷ rest)))
    → is_there (slot_at xs m) ≡ true → IfOk r (λ a. Gave allowed xs (slice_set xs (m - 1) x) (record { member = m; node = node; indication = i } ∷ []) (a ∷ []))
gave_put {M} allowed xs m node i r old x some within is says there = go r (says (ap is_there (sym at) ∙ there))
  where
    at : slot_at xs m ≡ old
    at = at_place xs m old some within is

    go : (r : Result (Option Request) NoMemory) → IfOk r (λ a. (rest : List Answer) → may allowed x rest → may allowed old (record { node = node; indication = i; request = a } ∷ rest))
        → IfOk r (λ a. Gave allowed xs (slice_set xs (m - 1) x) (record { member = m; node = node; indication = i } ∷ []) (a ∷ []))
    go (Ok a) h = gave_one allowed xs m node i a old x some within at h
    go (Err f) h = tt
