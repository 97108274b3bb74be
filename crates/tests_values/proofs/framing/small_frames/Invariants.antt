use Rattle.std.proofs.Common.{◌<◌, ◌≤◌, ◌+◌, ◌*◌, ◌^◌}
use Rattle.tp_framing.specs.Fed.{fed_so_far}
use Rattle.tests_values.proofs.framing.small_frames.Given as goal

abbrev pub invariant-loop-round : goal.invariant-loop-round
invariant-loop-round l = record { room : fed_so_far l.frames < 2 ^ 32 + 3 * l._round; count : l.taken ≤ l._round }
