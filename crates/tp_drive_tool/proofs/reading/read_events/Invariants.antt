use Rattle.std.proofs.Common.{◌≤◌}
use Rattle.tp_drive_tool.proofs.Readings.{HasTaken}
use Rattle.tp_drive_tool.proofs.reading.read_events.Given as goal

abbrev pub invariant-events : goal.invariant-events
invariant-events g l = record {
  taken : HasTaken (g.S.Source.left l.fn.source) l.intake (g.S.Source.left l.source) l.events.items;
  kept : g.S.Source.fault_count l.fn.source ≤ g.S.Source.fault_count l.source;
}
