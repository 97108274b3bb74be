use Rattle.std.proofs.Common.{◌≡◌, ◌<◌, ◌^◌, length}
use Rattle.tp_journal.specs.Log.{place_behind}
use Rattle.tp_bound.proofs.Opening.{ReadSoFar}
use Rattle.tp_bound.proofs.bound.read.Given as goal

abbrev pub invariant-loop-i : goal.invariant-loop-i
invariant-loop-i g l = record {
  so_far : ReadSoFar l.gates.bodies l.i l.place l.store;
  small : place_behind l.gates.bodies < 2 ^ 63;
  count : l.i-end ≡ length l.gates.bodies;
}
