use Rattle.std.proofs.Common.{◌≡◌, ◌≤◌, ℕ, List, Some}
use Rattle.tp_log_tools.specs.Readings.{as_placed}
use Rattle.tp_log_tools.specs.Findings.{picked}
use Rattle.tp_log_tools.specs.Output.{IsUnderWay}
use Rattle.tp_log_tools.proofs.Outputs.{lines}
use Rattle.tp_log_tools.proofs.checking.write_found.Given as goal

abbrev pub invariant-loop-i : goal.invariant-loop-i
invariant-loop-i g l = record {
  kept : g.K.Sink.fault_count l.fn.sink ≤ g.K.Sink.fault_count l.sink;
  so_far : (before : List ℕ) → g.K.Sink.written l.fn.sink ≡ Some before → IsUnderWay before (lines (picked (as_placed (g.J.Keeper.standing l.log).told) l.found) l.i-index) l.out (g.K.Sink.written l.sink);
}
