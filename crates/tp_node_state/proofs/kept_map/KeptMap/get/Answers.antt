use Rattle.std.proofs.Common.{◌≡◌, ap, sym, ◌∙◌, refl, arith, cond, subst, None, Some}
use Rattle.std.specs.Map.{values_of}
use Rattle.std.specs.Prelude.{slice_get}
use Rattle.std.proofs.lemmas.Iterator.Consumers.{nth_from_yields_List, YieldsList-from_rest}
use Rattle.tp_node_state.proofs.KeptAges.{value_at}
use Rattle.tp_node_state.proofs.kept_map.KeptMap.get.Goals as goal

pub returns-in-None : goal.returns-in-None
returns-in-None c =
    let at = nth_from_yields_List None c.nth.new.self c.args.place c.in-None.ensures.ran (YieldsList-from_rest (values_of c.self.inside.by_age.entries) c.values.ensures.rest) in
    value_at c.self.inside.by_age.entries c.args.place None at ∙ ap (λ l. slice_get l c.args.place) c.self.view_is

pub returns-in-Some : goal.returns-in-Some
returns-in-Some c =
    let at = nth_from_yields_List (Some c.in-Some.kept) c.nth.new.self c.args.place c.in-Some.ensures.ran (YieldsList-from_rest (values_of c.self.inside.by_age.entries) c.values.ensures.rest) in
    ap Some c.deref.ensures ∙ value_at c.self.inside.by_age.entries c.args.place (Some c.in-Some.kept.now) at ∙ ap (λ l. slice_get l c.args.place) c.self.view_is
