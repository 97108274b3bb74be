use Rattle.std.proofs.Common.{◌≡◌, ◌≤◌, ◌++◌, ℕ, List, Some}
use Rattle.tp_keys.specs.Lines.{key_lines}
use Rattle.tp_keys.specs.Printing.{WritesPart}
use Rattle.tp_keys.proofs.Writing.{shown}
use Rattle.tp_keys.proofs.print.print.Given as goal

abbrev pub invariant-loop-key : goal.invariant-loop-key
invariant-loop-key g l = record {
  kept : g.K.Sink.fault_count l.fn.sink ≤ g.K.Sink.fault_count l.sink;
  so_far : (before : List ℕ) → g.K.Sink.written l.fn.sink ≡ Some before → WritesPart before (key_lines l.bound.store.content) (l.text ++ key_lines (shown l.key-iterator)) (g.K.Sink.written l.sink);
}
