use Rattle.std.proofs.Common.{◌≤◌}
use Rattle.tp_unite.proofs.Listening.{Way}
use Rattle.tp_unite.proofs.verdict.hear.Given as goal

abbrev pub invariant-frames : goal.invariant-frames
invariant-frames g l = record {
  kept : g.S.Source.fault_count l.fn.source ≤ g.S.Source.fault_count l.source;
  way : Way (g.S.Source.left l.fn.source) l.intake (g.S.Source.left l.source) l.recording;
}
