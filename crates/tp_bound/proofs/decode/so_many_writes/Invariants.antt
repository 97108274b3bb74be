use Rattle.std.proofs.Common.{◌≡◌, ◌-◌}
use Rattle.tp_names.specs.Scanning.{scan_many}
use Rattle.tp_bound.specs.BodyScanning.{scan_write, after}
use Rattle.tp_bound.proofs.decode.so_many_writes.Given as goal

abbrev pub invariant-loop-round : goal.invariant-loop-round
invariant-loop-round l = after l.list (scan_many scan_write (l.count - l._round) l.cursor) ≡ scan_many scan_write l.count l.fn.cursor
