use Rattle.std.proofs.Common.{subst}
use Rattle.tp_bound.specs.Content.{Content, Ascends}
use Rattle.tp_bound.proofs.Tables.{ascends}
use Rattle.tp_bound.proofs.content.Content.len.Goals as goal

pub returns-clause-ascends : goal.returns-clause-ascends
returns-clause-ascends c = subst (λ (w : Content). Ascends w) c.self.view_is (ascends c.self.inside.table.entries c.len.ensures.ordered)
