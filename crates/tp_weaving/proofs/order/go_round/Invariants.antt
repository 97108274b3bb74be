use Rattle.std.proofs.Common.{◌≡◌, false, length, List}
use Rattle.tp_deployments.specs.Deployments.{Place}
use Rattle.tp_weaving.specs.Frames.{Record}
use Rattle.tp_weaving.specs.Said.{is_said}
use Rattle.tp_weaving.specs.Weaving.{Way}
use Rattle.tp_weaving.proofs.Lanes.{AreStuckTo}
use Rattle.tp_weaving.proofs.order.go_round.Given as goal

abbrev pub invariant-loop-k : goal.invariant-loop-k
invariant-loop-k l = record {
  length : length l.lanes ≡ length l.fn.lanes;
  way : (qs : List Place) (rs : List Record) → Way qs rs (is_said l.fn.said) l.fn.lanes → Way qs rs (is_said l.said) l.lanes;
  stuck : l.moved ≡ false → AreStuckTo l.k (is_said l.said) l.lanes;
}
