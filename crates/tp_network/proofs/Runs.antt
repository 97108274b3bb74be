-- Nodes with consecutive numbers.
use Rattle.std.proofs.Common.{◌≡◌, ◌+◌, ◌++◌, ◌==◌, ◌<◌, ℕ, zero, suc, true, false, ap, sym, ◌∙◌, arith, List, [], ◌∷◌, length}
use Rattle.std.specs.Prelude.{slice_index_or, slice_set}
use Rattle.std.proofs.lemmas.Bool.Decides.{nat_tests}
use Rattle.tp_network.specs.Nodes.{IsRun, place_of_number}
use Rattle.tp_network.specs.declared.nodes.NodeSlot.{NodeSlot}

-- the place of one of the numbers
pub run_place : (k n i : ℕ) (xs : List NodeSlot) → IsRun k n xs → i < k → place_of_number xs (n + i) ≡ i
run_place zero n i xs h l = absurd (omega arith)
run_place (suc k) n i [] h l = absurd h
run_place (suc k) n zero (x ∷ xs) h l = let same : (x.addr.node == n + 0) ≡ true = grind (arith, nat_tests, h.0) in grind (arith, same)
run_place (suc k) n (suc i) (x ∷ xs) h l =
    let apart : (x.addr.node == n + suc i) ≡ false = grind (arith, nat_tests, h.0) in
    let rest : place_of_number xs (suc n + i) ≡ i = run_place k (suc n) i xs h.1 (omega arith) in
    let moved : suc n + i ≡ n + suc i = omega arith in
    let there : place_of_number xs (n + suc i) ≡ i = ap (λ (m : ℕ). place_of_number xs m) (sym moved) ∙ rest in
    grind (arith, apart, there)

-- a node more
pub run_kept : (k n : ℕ) (xs : List NodeSlot) (x : NodeSlot) → IsRun k n xs → IsRun k n (xs ++ x ∷ [])
run_kept zero n xs x h = tt
run_kept (suc k) n [] x h = absurd h
run_kept (suc k) n (y ∷ xs) x h = (h.0, run_kept k (suc n) xs x h.1)

pub run_longer : (n : ℕ) (xs : List NodeSlot) (x : NodeSlot) → n + length xs ≡ x.addr.node → IsRun (length xs) n xs → IsRun (suc (length xs)) n (xs ++ x ∷ [])
run_longer n [] x e h = (omega (arith, e), tt)
run_longer n (y ∷ xs) x e h = (h.0, run_longer (suc n) xs x (omega (arith, e)) h.1)

-- a node that changes and keeps its address
pub run_set : (k n : ℕ) (xs : List NodeSlot) (i : ℕ) (y d : NodeSlot) → y.addr.node ≡ (slice_index_or xs i d).addr.node → IsRun k n xs → IsRun k n (slice_set xs i y)
run_set zero n xs i y d e h = tt
run_set (suc k) n [] i y d e h = absurd h
run_set (suc k) n (x ∷ xs) zero y d e h = (e ∙ h.0, h.1)
run_set (suc k) n (x ∷ xs) (suc i) y d e h = (h.0, run_set k (suc n) xs i y d e h.1)
