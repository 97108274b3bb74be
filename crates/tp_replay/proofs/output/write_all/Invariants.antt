use Rattle.std.proofs.Common.{◌≡◌, ◌-◌, ◌≤◌, ◌++◌, List, ℕ, Some, length, take}
use Rattle.tp_replay.proofs.output.write_all.Given as goal

abbrev pub invariant-loop-at : goal.invariant-loop-at
invariant-loop-at g l = record {
  inside : l.at ≤ length l.text;
  kept : g.K.Sink.fault_count l.fn.sink ≤ g.K.Sink.fault_count l.sink;
  so_far : (before : List ℕ) → g.K.Sink.written l.fn.sink ≡ Some before → g.K.Sink.written l.sink ≡ Some (before ++ take l.at l.text);
}

abbrev pub decreases-loop-at : goal.decreases-loop-at
decreases-loop-at g l = length l.text - l.at
