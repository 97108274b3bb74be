-- Counts, and their texts.
use Rattle.std.proofs.Common.{◌≡◌, ◌∙◌, ℕ, zero, suc, ◌<◌, ◌≤◌, ◌+◌, ◌^◌, Bool, true, false, List, [], ◌∷◌, ◌++◌, length, take, refl, ap, sym, append_assoc, arith}
use Rattle.std.specs.Prelude.{slice_index_or}
use Rattle.std.specs.Fmt.{decimal as std_decimal}
use Rattle.tp_model.specs.Words.{decimal}
use Rattle.tp_model.specs.declared.out_line.OutLine.{OutLine}
use Rattle.tp_model.specs.Generator.{counted, is_agreed_commit, is_agreed_rollback, is_mixed, is_open, summary_line}
use Rattle.tp_text_builder.proofs.Decimals.{decimal_same}
use Rattle.tp_generate.specs.declared.summary.Endings.{Endings}
use Rattle.tp_generate.specs.Counts.{and_one, with_line, AreCounts, IsUpTo}

swapped : (a b : Bool) (n : ℕ) → and_one a (and_one b n) ≡ and_one b (and_one a n)
swapped true true n = refl
swapped true false n = refl
swapped false true n = refl
swapped false false n = refl

counted_first : (test : OutLine → Bool) (l : OutLine) (ls : List OutLine) → counted test (l ∷ ls) ≡ and_one (test l) (counted test ls)
counted_first test l ls = go (test l)
  where
    go : (b : Bool) → elim b as (λ _. ℕ) [ true ↦ suc (counted test ls) | false ↦ counted test ls ] ≡ and_one b (counted test ls)
    go true = refl
    go false = refl

counted_more : (test : OutLine → Bool) (ls : List OutLine) (i : ℕ) (d : OutLine) → i < length ls
    → counted test (take (i + 1) ls) ≡ and_one (test (slice_index_or ls i d)) (counted test (take i ls))
counted_more test [] i d h = absurd (omega arith)
counted_more test (l ∷ ls) zero d h = counted_first test l []
counted_more test (l ∷ ls) (suc i) d h =
    let e : suc i + 1 ≡ suc (i + 1) = omega arith in
    rw e
    (counted_first test l (take (i + 1) ls)
    ∙ ap (and_one (test l)) (counted_more test ls i d (omega arith))
    ∙ swapped (test l) (test (slice_index_or ls i d)) (counted test (take i ls))
    ∙ ap (and_one (test (slice_index_or ls i d))) (sym (counted_first test l (take i ls))))

pub counts_more : (ls : List OutLine) (i : ℕ) (d : OutLine) (e : Endings) → i < length ls → AreCounts (take i ls) e
    → AreCounts (take (i + 1) ls) (with_line e (slice_index_or ls i d))
counts_more ls i d e h a = record {
  commits = ap (and_one (is_agreed_commit (slice_index_or ls i d))) a.commits ∙ sym (counted_more is_agreed_commit ls i d h);
  rollbacks = ap (and_one (is_agreed_rollback (slice_index_or ls i d))) a.rollbacks ∙ sym (counted_more is_agreed_rollback ls i d h);
  mixed = ap (and_one (is_mixed (slice_index_or ls i d))) a.mixed ∙ sym (counted_more is_mixed ls i d h);
  open_trees = ap (and_one (is_open (slice_index_or ls i d))) a.open_trees ∙ sym (counted_more is_open ls i d h);
}

up_one : (b : Bool) (k n : ℕ) → k ≤ n → and_one b k ≤ n + 1
up_one true k n h = omega (arith, h)
up_one false k n h = omega (arith, h)

pub one_more : (e : Endings) (l : OutLine) (n : ℕ) → IsUpTo n e → IsUpTo (n + 1) (with_line e l)
one_more e l n h = record {
  commits = up_one (is_agreed_commit l) e.commits n h.commits;
  rollbacks = up_one (is_agreed_rollback l) e.rollbacks n h.rollbacks;
  mixed = up_one (is_mixed l) e.mixed n h.mixed;
  open_trees = up_one (is_open l) e.open_trees n h.open_trees;
}

pub count_written : (old word : List ℕ) (n : ℕ) → n < 2 ^ 64 → ((old ++ word) ++ 32 ∷ []) ++ std_decimal n ++ 10 ∷ [] ≡ old ++ summary_line word n
count_written old word n small =
    ap (λ t. ((old ++ word) ++ 32 ∷ []) ++ t ++ 10 ∷ []) (decimal_same n small)
    ∙ ap (λ t. t ++ 10 ∷ []) (append_assoc (old ++ word) (32 ∷ []) (decimal n) ∙ append_assoc old word (32 ∷ decimal n))
    ∙ append_assoc old (word ++ 32 ∷ decimal n) (10 ∷ [])
