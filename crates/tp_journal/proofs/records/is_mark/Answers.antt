use Rattle.std.proofs.Common.{ap, ◌∙◌}
use Rattle.tp_journal.proofs.Marks.{pointwise_is}
use Rattle.tp_names.specs.Same.{is_name}
use Rattle.tp_journal.proofs.records.is_mark.Goals as goal

pub returns : goal.returns
returns c = c.eq.ensures ∙ pointwise_is c.args.body.now c.as_slice.result.now ∙ ap (λ l. is_name c.args.body.now l) c.as_slice.ensures
