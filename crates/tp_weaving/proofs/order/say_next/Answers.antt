-- The next step may come, and what it says is said.
use Rattle.std.proofs.Common.{◌≡◌, ◌∙◌, sym, List, Some, true, subst, arith}
use Rattle.std.specs.Prelude.{slice_get}
use Rattle.tp_weaving.specs.declared.step.Step.{Step}
use Rattle.tp_weaving.specs.Weaving.{Says}
use Rattle.tp_weaving.proofs.Lanes.{got}
use Rattle.tp_weaving.proofs.order.say_next.Goals as goal

pub returns : goal.returns
returns c =
    let step = c.in-Some.step.now in
    let held : c.is_held.result ≡ true = grind (arith, c.if-not-is_held.false) in
    record {
      step = step;
      next = subst (λ (ts : List Step). slice_get ts c.args.lane.now.taken ≡ Some step) c.deref.ensures.value (got c.deref.result.now c.args.lane.now.taken step c.in-Some.ensures.lookup.3.0 c.in-Some.ensures.lookup.1);
      held = sym c.is_held.ensures ∙ held;
      says = subst (Says c.args.said.now c.say.new.said) c.as_slice.ensures.value c.in_ok-say.ensures;
    }
