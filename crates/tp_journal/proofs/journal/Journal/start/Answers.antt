use Rattle.std.proofs.Common.{◌≡◌, None, subst}
use Rattle.tp_journal.specs.Records.{AreRecords}
use Rattle.tp_journal.specs.Start.{Starts}
use Rattle.tp_journal.proofs.journal.Journal.start.Goals as goal

pub returns-clause-started : goal.returns-clause-started
returns-clause-started g c =
    let log = c.in_ok-log.log in
    let records : AreRecords log.shelf = subst AreRecords c.shelf.ensures c.list-records.ensures.records in
    subst (λ b. Starts (g.D.Disk.told c.args.disk) (g.D.Disk.told log.disk) log.gate b × (log.shut ≡ None)) records.are ((c.in_ok-log.ensures {u = tt}).started)
