use Rattle.std.proofs.Common.{◌≡◌, [], Some, None}
use Rattle.tp_replay.specs.Voters.{may_vote}
use Rattle.tp_replay.proofs.SoFar.{SoFar}
use Rattle.tp_replay.proofs.trial.play_made.Given as goal

abbrev pub invariant-loop-at : goal.invariant-loop-at
invariant-loop-at l = record {
  unfaulted : l.lines.fault ≡ None;
  so_far : SoFar may_vote [] l.at l.fn.text l.world l.lines (Some l.source.source.left) None None [];
}
