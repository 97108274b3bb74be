use Rattle.std.proofs.Common.{ap, ◌∙◌}
use Rattle.tp_bound.specs.Content.{Content, without}
use Rattle.tp_bound.proofs.Tables.{taken_out}
use Rattle.tp_bound.proofs.content.Content.remove.Goals as goal

pub returns : goal.returns
returns c =
    let key = c.args.key.now in
    taken_out c.self.inside.table.entries c.remove-old.new.self.entries key c.remove-old.ensures.entries ∙ ap (λ (w : Content). without w key) c.self.view_is
