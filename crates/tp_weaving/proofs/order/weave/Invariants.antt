use Rattle.std.proofs.Common.{List}
use Rattle.tp_deployments.specs.Deployments.{Place}
use Rattle.tp_weaving.specs.Frames.{Record}
use Rattle.tp_weaving.specs.Parts.{AreApart}
use Rattle.tp_weaving.specs.Said.{is_said}
use Rattle.tp_weaving.specs.Weaving.{AreLanes, Way}
use Rattle.tp_weaving.proofs.order.weave.Given as goal

abbrev pub invariant-rounds : goal.invariant-rounds
invariant-rounds l = record {
  way : (qs : List Place) (rs : List Record) → AreApart rs → AreLanes qs rs l.fn.lanes → Way qs rs (is_said l.said) l.lanes;
}
