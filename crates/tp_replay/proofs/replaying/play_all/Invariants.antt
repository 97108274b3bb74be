use Rattle.std.proofs.Common.{◌≡◌, ◌≤◌, ℕ, List, Some, None}
use Rattle.tp_replay.proofs.SoFar.{SoFar}
use Rattle.tp_replay.proofs.replaying.play_all.Given as goal

abbrev pub invariant-loop-at : goal.invariant-loop-at
invariant-loop-at g l = record {
  unfaulted : l.lines.fault ≡ None;
  read : g.S.Source.fault_count l.fn.source ≤ g.S.Source.fault_count l.source;
  written : g.K.Sink.fault_count l.fn.sink ≤ g.K.Sink.fault_count l.sink;
  so_far : (bytes : List ℕ) → g.S.Source.left l.fn.source ≡ Some bytes
      → SoFar g.M.Member.allowed l.fn.members.items l.at bytes l.world l.lines (g.S.Source.left l.source) (g.K.Sink.written l.fn.sink) (g.K.Sink.written l.sink) l.out;
}
