use Rattle.tp_text_builder.proofs.Added.{adds_then}
use Rattle.tp_text_builder.proofs.text.Text.branch.Goals as goal

pub returns : goal.returns
returns c = adds_then c.site.ensures c.dotted.ensures
