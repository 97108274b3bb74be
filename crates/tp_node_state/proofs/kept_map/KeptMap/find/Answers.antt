use Rattle.std.proofs.Common.{◌≡◌, ap, sym, ◌∙◌, refl, arith, cond, subst, None, Some}
use Rattle.std.specs.Option.{option_map}
use Rattle.tp_model.specs.Recovery.{find_kept}
use Rattle.tp_node_state.proofs.KeptAges.{ascends, found, found_none}
use Rattle.tp_node_state.proofs.kept_map.KeptMap.find.Goals as goal

pub returns-in_default-clause-found : goal.returns-in_default-clause-found
returns-in_default-clause-found c = sym (found_none c.self.inside.by_age.entries c.args.key.now (sym c.in_default.ensures)) ∙ ap (λ l. find_kept l c.args.key.now) c.self.view_is

pub returns-in-None-clause-found : goal.returns-in-None-clause-found
returns-in-None-clause-found c =
    ap (option_map (λ b. b.value)) c.in-None.ensures.value
    ∙ found c.self.inside.by_age.entries c.args.key.now c.in-Some.age (ascends c.self.inside.by_age.entries c.self.invariant.0.0) (sym c.in-Some.ensures)
    ∙ ap (λ l. find_kept l c.args.key.now) c.self.view_is

pub returns-in-Some-get-clause-found : goal.returns-in-Some-get-clause-found
returns-in-Some-get-clause-found c =
    ap Some c.deref.ensures
    ∙ ap (option_map (λ b. b.value)) c.in-Some-get.ensures.value
    ∙ found c.self.inside.by_age.entries c.args.key.now c.in-Some.age (ascends c.self.inside.by_age.entries c.self.invariant.0.0) (sym c.in-Some.ensures)
    ∙ ap (λ l. find_kept l c.args.key.now) c.self.view_is
