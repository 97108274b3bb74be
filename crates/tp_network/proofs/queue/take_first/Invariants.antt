use Rattle.std.proofs.Common.{◌≡◌}
use Rattle.tp_network.specs.Waiting.{above}
use Rattle.tp_network.proofs.queue.take_first.Given as goal

abbrev pub invariant-loop-number : goal.invariant-loop-number
invariant-loop-number l = above l.passed l.numbers.items ≡ above l.passed l.initial.numbers.items

abbrev pub decreases-loop-number : goal.decreases-loop-number
decreases-loop-number l = l.numbers.len
