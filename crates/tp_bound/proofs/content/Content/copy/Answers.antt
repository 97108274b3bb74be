use Rattle.std.proofs.Common.{◌∙◌}
use Rattle.std.proofs.lemmas.List.Elements.{same_from_all_zip}
use Rattle.tp_bound.proofs.Copies.{copied}
use Rattle.tp_bound.proofs.content.Content.copy.Goals as goal

pub returns : goal.returns
returns c = copied _ (λ v w same. same_from_all_zip _ v.items w.items same.0 (λ a b is. is)) c.self.inside.table.entries c.in_ok-table.table.entries c.in_ok-table.ensures.cases ∙ c.self.view_is
