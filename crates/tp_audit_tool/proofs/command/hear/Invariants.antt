use Rattle.std.proofs.Common.{◌≤◌}
use Rattle.tp_audit_tool.specs.Hearing.{room_of}
use Rattle.tp_audit_tool.proofs.Listening.{Way}
use Rattle.tp_audit_tool.proofs.command.hear.Given as goal

abbrev pub invariant-loop-hearing : goal.invariant-loop-hearing
invariant-loop-hearing g l = record {
  kept : g.S.Source.fault_count l.fn.source ≤ g.S.Source.fault_count l.source;
  way : Way (g.S.Source.left l.fn.source) l.intake (g.S.Source.left l.source) l.hearing;
}

abbrev pub decreases-loop-hearing : goal.decreases-loop-hearing
decreases-loop-hearing g l = room_of l.hearing
