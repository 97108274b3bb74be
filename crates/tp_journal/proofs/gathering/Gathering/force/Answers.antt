use Rattle.std.proofs.Common.{None, sym, subst}
use Rattle.tp_journal.specs.Journals.{standing_of}
use Rattle.tp_journal.specs.Keeping.{Forces, Stored, receipt_of}
use Rattle.tp_journal.proofs.gathering.Gathering.force.Goals as goal

pub returns-clause-notes : goal.returns-clause-notes
returns-clause-notes g c =
    let faults = g.D.Disk.fault_count in
    let old = c.args.self.now.journal in
    let new = c.append.new.self.journal in
    let stored : Stored (standing_of old (faults old.disk) None None) c.args.rec.now (record { place = c.in_ok-place.place; rec = c.args.rec.now }) (standing_of new (faults new.disk) None None) =
    subst (λ r. Forces (standing_of old (faults old.disk) None None) c.args.rec.now (receipt_of c.args.rec.now r) (standing_of new (faults new.disk) None None)) c.in_ok-place.was c.append.ensures.notes in
    subst (λ r. Stored (standing_of old (faults old.disk) None None) c.args.rec.now (record { place = c.in_ok-place.place; rec = r }) (standing_of new (faults new.disk) None None)) (sym (c.in_ok-copy.ensures {u = tt})) stored
