-- A number that is placed among others, from one of them on to the next.
use Rattle.std.proofs.Common.{◌≡◌, ◌<◌, ◌+◌, ◌++◌, ℕ, Bool, true, false, ap, sym, ◌∙◌, arith, List, [], ◌∷◌, length, drop, append_assoc}
use Rattle.std.specs.Prelude.{slice_index_or}
use Rattle.std.proofs.lemmas.Bool.Decides.{nat_tests}
use Rattle.std.proofs.lemmas.List.{drop_more}
use Rattle.tp_model.specs.Trees.{placed}

-- what is left to put, where the number is placed already or not
abbrev pub to_place : Bool → ℕ → List ℕ → List ℕ
to_place true n ms = ms
to_place false n ms = placed n ms

pub place_here : (n : ℕ) (ms all : List ℕ) (i d : ℕ) → i < length ms → n < slice_index_or ms i d → placed n ms ≡ all ++ placed n (drop i ms) → placed n ms ≡ ((all ++ n ∷ []) ++ slice_index_or ms i d ∷ []) ++ drop (i + 1) ms
place_here n ms all i d h e is =
    let x : ℕ = slice_index_or ms i d in
    let rest : List ℕ = drop (i + 1) ms in
    let here : placed n (x ∷ rest) ≡ n ∷ x ∷ rest = grind (arith, nat_tests, e) in
    is ∙ ap (λ (l : List ℕ). all ++ placed n l) (drop_more ms i d h) ∙ ap (λ (l : List ℕ). all ++ l) here ∙ sym (append_assoc all (n ∷ []) (x ∷ rest)) ∙ sym (append_assoc (all ++ n ∷ []) (x ∷ []) rest)

pub place_past : (n : ℕ) (ms all : List ℕ) (i d : ℕ) → i < length ms → (n < slice_index_or ms i d → ⊥) → placed n ms ≡ all ++ placed n (drop i ms) → placed n ms ≡ (all ++ slice_index_or ms i d ∷ []) ++ placed n (drop (i + 1) ms)
place_past n ms all i d h e is =
    let x : ℕ = slice_index_or ms i d in
    let rest : List ℕ = drop (i + 1) ms in
    let past : placed n (x ∷ rest) ≡ x ∷ placed n rest = grind (arith, nat_tests, e) in
    is ∙ ap (λ (l : List ℕ). all ++ placed n l) (drop_more ms i d h) ∙ ap (λ (l : List ℕ). all ++ l) past ∙ sym (append_assoc all (x ∷ []) (placed n rest))

pub place_on : (n : ℕ) (ms all : List ℕ) (i d : ℕ) → i < length ms → placed n ms ≡ all ++ drop i ms → placed n ms ≡ (all ++ slice_index_or ms i d ∷ []) ++ drop (i + 1) ms
place_on n ms all i d h is =
    is ∙ ap (λ (l : List ℕ). all ++ l) (drop_more ms i d h) ∙ sym (append_assoc all (slice_index_or ms i d ∷ []) (drop (i + 1) ms))
