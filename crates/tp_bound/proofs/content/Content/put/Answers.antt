use Rattle.std.proofs.Common.{List, ℕ, ap, ◌∙◌}
use Rattle.tp_bound.specs.Content.{Content, put}
use Rattle.tp_bound.proofs.Tables.{added}
use Rattle.tp_bound.proofs.content.Content.put.Goals as goal

pub returns-clause-ok : goal.returns-clause-ok
returns-clause-ok c =
    let value = c.into_vec-2.result.items in
    added c.self.inside.table.entries c.insert.new.self.entries c.into_vec.result c.into_vec-2.result c.in_ok-_old.ensures.entries
    ∙ ap (λ (w : Content). put w c.into_vec.result.items value) c.self.view_is
    ∙ ap (λ (k : List ℕ). put c.args.self.now k value) c.into_vec.ensures
    ∙ ap (λ (v : List ℕ). put c.args.self.now c.args.key v) c.into_vec-2.ensures
