-- A lane that does not go on is stuck, and nothing changes.
use Rattle.std.proofs.Common.{arith}
use Rattle.tp_weaving.specs.Said.{is_said}
use Rattle.tp_weaving.proofs.Lanes.{all_stuck}
use Rattle.tp_weaving.proofs.order.go_round.Goals as goal

pub returns-clause-stuck : goal.returns-clause-stuck
returns-clause-stuck c = λ none.
    all_stuck (is_said c.loop-k.said) c.loop-k.lanes
    (λ k x within is. c.loop-k.invariant.stuck none k x (omega (arith, within, c.loop-k-test.false, c.loop-k.invariant.length)) is)
