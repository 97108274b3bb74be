use Rattle.std.proofs.Common.{◌≡◌, ◌≤◌, ◌++◌, ℕ, List, Some}
use Rattle.tpdraw.proofs.intake.read_all.Given as goal

abbrev pub invariant-input : goal.invariant-input
invariant-input g l = record {
  so_far : (all : List ℕ) → g.S.Source.left l.fn.source ≡ Some all → (rest : List ℕ) × (g.S.Source.left l.source ≡ Some rest) × (all ≡ l.bytes ++ rest);
  kept : g.S.Source.fault_count l.fn.source ≤ g.S.Source.fault_count l.source;
}
