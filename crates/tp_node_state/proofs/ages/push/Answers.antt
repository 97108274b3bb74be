use Rattle.std.proofs.Common.{◌≡◌, ap, sym, ◌∙◌, refl, arith, cond, subst, None, Some}
use Rattle.std.specs.Option.{IsSome}
use Rattle.tp_node_state.proofs.KeptTrees.{same_noted}
use Rattle.tp_node_state.proofs.ages.push.Goals as goal

pub returns-in_default-push-clause-same : goal.returns-in_default-push-clause-same
returns-in_default-push-clause-same c = λ t.
    same_noted c.args.trees.now.entries (c.get_mut.follows.lender c.push.new.self).entries c.args.aaid.now c.in-Some.ages.now c.push.new.self c.in-Some.ensures.value c.in_default-push.ensures.items ((c.get_mut.follows.holds c.push.new.self).3 (subst IsSome c.in-Some.ensures.value refl)).0 t
