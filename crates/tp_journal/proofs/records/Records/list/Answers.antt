use Rattle.std.proofs.Common.{sym, ap, ◌∙◌, subst}
use Rattle.tp_journal.specs.Records.{recs_of, AreRecords}
use Rattle.tp_journal.proofs.RecordBodies.{recs_is, are_records}
use Rattle.tp_journal.proofs.records.Records.list.Goals as goal

pub returns-clause-is : goal.returns-clause-is
returns-clause-is c = c.as_slice.ensures.value ∙ sym (recs_is c.self.inside.wide c.self.inside.recs.items c.self.invariant.texts) ∙ ap recs_of c.self.view_is

pub returns-clause-records : goal.returns-clause-records
returns-clause-records c = subst AreRecords c.self.view_is (are_records c.self.inside.wide c.self.inside.recs.items c.self.invariant.texts)
