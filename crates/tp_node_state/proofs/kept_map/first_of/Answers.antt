use Rattle.std.proofs.Common.{◌≡◌, ap, sym, ◌∙◌, refl, arith, cond, subst, None, Some}
use Rattle.tp_node_state.specs.Changes.{first_among}
use Rattle.tp_node_state.proofs.KeptAges.{ascends}
use Rattle.tp_node_state.proofs.KeptTrees.{tree_found, first_at}
use Rattle.tp_node_state.proofs.kept_map.first_of.Goals as goal

pub loop-age-init : goal.loop-age-init
loop-age-init c =
    tree_found c.args.by_age.now.entries c.args.change.now c.args.aaid.now c.args.branch.now (ascends c.args.by_age.now.entries c.requires.0)
    ∙ ap (first_among c.args.by_age.now.entries c.args.change.now c.args.branch.now) (sym (c.of-age-items.ensures ∙ c.requires.1 c.args.aaid.now))

pub returns-in-Some : goal.returns-in-Some
returns-in-Some c =
    sym (c.loop-age.invariant ∙ first_at c.args.by_age.now.entries c.args.change.now c.args.branch.now c.of-age-items.result.now c.loop-age.age-index (Some c.in-Some.key) c.loop-age-test.true (sym c.in-Some.ensures))

pub loop-age-preserved : goal.loop-age-preserved
loop-age-preserved c =
    c.loop-age.invariant ∙ first_at c.args.by_age.now.entries c.args.change.now c.args.branch.now c.of-age-items.result.now c.loop-age.age-index None c.loop-age-test.true (sym c.in_default.ensures)
