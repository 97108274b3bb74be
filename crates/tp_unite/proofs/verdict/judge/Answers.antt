-- The sites make one order, and the closing lines are told.
use Rattle.std.proofs.Common.{List, sym, subst}
use Rattle.tp_deployments.specs.Deployments.{Place}
use Rattle.tp_weaving.specs.Frames.{Record}
use Rattle.tp_weaving.specs.Parts.{AreApart}
use Rattle.tp_weaving.specs.Weaving.{AreLanes, Weaves, Ends}
use Rattle.tp_unite.proofs.Closed.{closes}
use Rattle.tp_unite.proofs.verdict.judge.Goals as goal

pub returns-in-Whole-clause-closes : goal.returns-in-Whole-clause-closes
returns-in-Whole-clause-closes c = λ bytes whole.
    let xs = c.in_ok-lanes.lanes.items in
    let weave : (qs : List Place) (rs : List Record) → AreApart rs → AreLanes qs rs xs → Weaves qs rs =
    λ qs rs apart are. subst (Ends qs rs) c.in-Whole.is (c.in_ok-weave.ensures qs rs apart (subst (AreLanes qs rs) (sym c.as_mut_slice.ensures.value) are)) in
    closes bytes c.args.recording xs c.in_ok-lanes.trees c.in_ok-lines-in-Whole.field-0 whole c.in_ok-lanes.ensures weave c.in_ok-lines-in-Whole.ensures
