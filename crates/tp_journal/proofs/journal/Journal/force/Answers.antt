use Rattle.std.proofs.Common.{sym, subst}
use Rattle.tp_journal.specs.Journals.{standing_of}
use Rattle.tp_journal.specs.Keeping.{Forces, Stored, receipt_of}
use Rattle.tp_journal.proofs.journal.Journal.force.Goals as goal

pub returns-clause-forces : goal.returns-clause-forces
returns-clause-forces g c =
    let faults = g.D.Disk.fault_count in
    let told = g.D.Disk.told in
    let fuse = g.D.Disk.fuse in
    let old = c.args.self.now in
    let new = c.append.new.self in
    let stored : Stored (standing_of old (faults old.disk) (told old.disk) (fuse old.disk)) c.args.rec.now (record { place = c.in_ok-place.place; rec = c.args.rec.now }) (standing_of new (faults new.disk) (told new.disk) (fuse new.disk)) =
    subst (λ r. Forces (standing_of old (faults old.disk) (told old.disk) (fuse old.disk)) c.args.rec.now (receipt_of c.args.rec.now r) (standing_of new (faults new.disk) (told new.disk) (fuse new.disk))) c.in_ok-place.was c.append.ensures.forces in
    subst (λ r. Stored (standing_of old (faults old.disk) (told old.disk) (fuse old.disk)) c.args.rec.now (record { place = c.in_ok-place.place; rec = r }) (standing_of new (faults new.disk) (told new.disk) (fuse new.disk)))
    (sym (c.in_ok-copy.ensures {u = tt})) stored
