use Rattle.std.proofs.Common.{Some, None, List, ℕ, sym, ap, ◌∙◌}
use Rattle.tp_bound.specs.Content.{Content, value_of}
use Rattle.tp_bound.proofs.Tables.{value_is}
use Rattle.tp_bound.proofs.content.Content.get.Goals as goal

pub returns-in-Some-clause-found : goal.returns-in-Some-clause-found
returns-in-Some-clause-found c =
    let key = c.args.key.now in
    ap (λ (w : Content). value_of w key) (sym c.self.view_is) ∙ value_is c.self.inside.table.entries key (Some c.in-Some.value.now) c.in-Some.ensures.value
    ∙ ap (λ (l : List ℕ). Some l) (sym c.as_slice.ensures.value)

pub returns-in-None-clause-none : goal.returns-in-None-clause-none
returns-in-None-clause-none c =
    let key = c.args.key.now in
    ap (λ (w : Content). value_of w key) (sym c.self.view_is) ∙ value_is c.self.inside.table.entries key None c.in-None.ensures.value
