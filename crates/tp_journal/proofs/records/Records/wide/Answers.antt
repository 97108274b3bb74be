use Rattle.std.proofs.Common.{sym, ap, ◌∙◌}
use Rattle.tp_journal.specs.Records.{wide_of}
use Rattle.tp_journal.proofs.RecordBodies.{wide_is}
use Rattle.tp_journal.proofs.records.Records.wide.Goals as goal

pub returns : goal.returns
returns c = sym (wide_is c.self.inside.wide c.self.inside.recs.items) ∙ ap wide_of c.self.view_is
