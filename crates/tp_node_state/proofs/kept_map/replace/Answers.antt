use Rattle.std.proofs.Common.{◌≡◌, ap, sym, ◌∙◌, refl, arith, cond, subst, None, Some}
use Rattle.tp_node_state.proofs.KeptTrees.{set_absent}
use Rattle.tp_node_state.proofs.kept_map.replace.Goals as goal

pub returns-in_default-clause-entries : goal.returns-in_default-clause-entries
returns-in_default-clause-entries c = ap (λ m. m.entries) c.get_mut.follows.holds-at-none ∙ set_absent c.args.by_age.now.entries c.args.age c.args.kept (sym c.in_default.ensures.value)
