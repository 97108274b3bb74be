-- What the closing lines show of a tree, from one node on to the next.
use Rattle.std.proofs.Common.{◌≡◌, ◌≤◌, ◌<◌, ◌+◌, ◌-◌, ℕ, zero, suc, true, false, refl, ap, sym, ◌∙◌, arith, List, [], ◌∷◌, ◌++◌, length, drop, append_assoc}
use Rattle.std.specs.Prelude.{slice_index_or}
use Rattle.std.proofs.lemmas.List.{drop_more}
use Rattle.tp_names.specs.declared.identifiers.Aaid.{Aaid}
use Rattle.tp_model.specs.declared.out_line.OutLine.{OutLine}
use Rattle.tp_model.specs.Trees.{placed}
use Rattle.tp_network.specs.TreeSummaries.{summary_at}
use Rattle.tp_network.specs.TreeOutcomes.{outcomes_at}
use Rattle.tp_world_sites.specs.Told.{decides_in, deciders_at, line_by, closing_at}
use Rattle.tp_network.specs.declared.nodes.NodeSlot.{NodeSlot}

pub decider_here : (t : Aaid) (xs : List NodeSlot) (i : ℕ) (d : NodeSlot) → i < length xs → decides_in (summary_at (slice_index_or xs i d).summaries t) ≡ true
    → deciders_at t (drop i xs) ≡ placed (slice_index_or xs i d).addr.node (deciders_at t (drop (i + 1) xs))
decider_here t xs i d h e = rw (drop_more xs i d h) (rw (e, deciders_at) refl)

pub decider_next : (t : Aaid) (xs : List NodeSlot) (i : ℕ) (d : NodeSlot) → i < length xs → decides_in (summary_at (slice_index_or xs i d).summaries t) ≡ false → deciders_at t (drop i xs) ≡ deciders_at t (drop (i + 1) xs)
decider_next t xs i d h e = rw (drop_more xs i d h) (rw (e, deciders_at) refl)

one_back : (i : ℕ) → 0 < i → i ≡ i - 1 + 1
one_back i h = omega (arith, h)

below_back : (i n : ℕ) → 0 < i → i ≤ n → i - 1 < n
below_back i n h k = omega (arith, h, k)

-- an element is there, whatever stands for one that is not
pub same_there : {A : Type 0} (xs : List A) (i : ℕ) (d e : A) → i < length xs → slice_index_or xs i d ≡ slice_index_or xs i e
same_there [] i d e h = absurd (omega (arith, h))
same_there (x ∷ xs) zero d e h = refl
same_there (x ∷ xs) (suc i) d e h = same_there xs i d e (omega (arith, h))

-- from one node back to the one before
pub decider_back : (t : Aaid) (xs : List NodeSlot) (ns : List ℕ) (i : ℕ) (d e : NodeSlot) → 0 < i → i ≤ length xs → decides_in (summary_at (slice_index_or xs (i - 1) d).summaries t) ≡ true → ns ≡ deciders_at t (drop i xs)
    → placed (slice_index_or xs (i - 1) e).addr.node ns ≡ deciders_at t (drop (i - 1) xs)
decider_back t xs ns i d e low most on is =
    ap (λ (x : NodeSlot). placed x.addr.node ns) (same_there xs (i - 1) e d (below_back i (length xs) low most))
    ∙ ap (placed (slice_index_or xs (i - 1) d).addr.node) (is ∙ ap (λ (k : ℕ). deciders_at t (drop k xs)) (one_back i low))
    ∙ sym (decider_here t xs (i - 1) d (below_back i (length xs) low most) on)

pub decider_over : (t : Aaid) (xs : List NodeSlot) (ns : List ℕ) (i : ℕ) (d : NodeSlot) → 0 < i → i ≤ length xs → decides_in (summary_at (slice_index_or xs (i - 1) d).summaries t) ≡ false → ns ≡ deciders_at t (drop i xs)
    → ns ≡ deciders_at t (drop (i - 1) xs)
decider_over t xs ns i d low most off is =
    is ∙ ap (λ (k : ℕ). deciders_at t (drop k xs)) (one_back i low) ∙ sym (decider_next t xs (i - 1) d (below_back i (length xs) low most) off)

pub line_next : (xs : List NodeSlot) (ts : List Aaid) (i : ℕ) (d : Aaid) (lines : List OutLine) → i < length ts → closing_at xs ts ≡ lines ++ closing_at xs (drop i ts)
    → closing_at xs ts ≡ (lines ++ line_by (slice_index_or ts i d) xs (outcomes_at xs (slice_index_or ts i d)) ∷ []) ++ closing_at xs (drop (i + 1) ts)
line_next xs ts i d lines h e =
    let t : Aaid = slice_index_or ts i d in
    e ∙ ap (λ (l : List Aaid). lines ++ closing_at xs l) (drop_more ts i d h) ∙ sym (append_assoc lines (line_by t xs (outcomes_at xs t) ∷ []) (closing_at xs (drop (i + 1) ts)))
