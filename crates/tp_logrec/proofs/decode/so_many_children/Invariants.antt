use Rattle.std.proofs.Common.{◌≡◌, ◌-◌}
use Rattle.tp_names.specs.Scanning.{scan_many, scan_child}
use Rattle.tp_logrec.specs.RecordScanning.{behind}
use Rattle.tp_logrec.proofs.decode.so_many_children.Given as goal

abbrev pub invariant-loop-round : goal.invariant-loop-round
invariant-loop-round l = behind l.list (scan_many scan_child (l.count - l._round) l.cursor) ≡ scan_many scan_child l.count l.fn.cursor
