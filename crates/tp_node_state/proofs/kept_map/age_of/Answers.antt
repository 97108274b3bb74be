use Rattle.std.proofs.Common.{◌≡◌, ap, sym, ◌∙◌, refl, arith, cond, subst, None, Some}
use Rattle.tp_node_state.specs.Kept.{age_among}
use Rattle.tp_node_state.proofs.KeptAges.{ascends}
use Rattle.tp_node_state.proofs.KeptTrees.{key_found, age_next}
use Rattle.tp_node_state.proofs.kept_map.age_of.Goals as goal

pub loop-age-init : goal.loop-age-init
loop-age-init c =
    key_found c.args.by_age.now.entries c.args.key.now (ascends c.args.by_age.now.entries c.requires.0)
    ∙ ap (age_among c.args.by_age.now.entries c.args.key.now) (sym (c.of-age-items.ensures ∙ c.requires.1 c.args.key.now.aaid))

pub loop-age-preserved : goal.loop-age-preserved
loop-age-preserved c =
    c.loop-age.invariant
    ∙ age_next c.args.by_age.now.entries c.args.key.now c.of-age-items.result.now c.loop-age.age-index c.loop-age-test.true (sym c.has_key.ensures ∙ c.if-has_key.false)
