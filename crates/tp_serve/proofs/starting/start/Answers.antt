use Rattle.std.proofs.Common.{sym, subst, refl}
use Rattle.tp_serve.specs.Starting.{NotStarted}
use Rattle.tp_serve.proofs.Starts.{HasOpened, unread, has_started, not_started}
use Rattle.tp_serve.proofs.starting.start.Goals as goal

pub returns-in-Err-clause-refused : goal.returns-in-Err-clause-refused
returns-in-Err-clause-refused g c s is file =
    let told = g.D.Disk.told in
    subst (NotStarted c.args.name s (told c.in-Err.disk)) (sym c.unread_by.ensures)
    (unread c.args.name (told c.args.disk) (told c.in-Err.disk) _ _ c.in-Err.fault ((c.in-Err.ensures {u = tt}).refused) s is file)

pub returns-in-Ok-start-clause-started : goal.returns-in-Ok-start-clause-started
returns-in-Ok-start-clause-started g c =
    let first = c.in-Ok.ensures {u = tt} in
    let said = c.in-Ok-start.ensures {u = tt} in
    let has : HasOpened g.D.Disk.fault_count g.D.Disk.told c.args.disk c.in-Ok.journal = record { starts = first.started.0; unshut = first.started.1; texts = first.texts; counted = first.kept } in
    has_started g.D.Disk.fault_count g.D.Disk.told g.D.Disk.fuse c.args.disk c.in-Ok.journal has c.args.name c.in-Ok-start.site said.starts (said.at refl) said.text

pub returns-in-Err-start-clause-refused : goal.returns-in-Err-start-clause-refused
returns-in-Err-start-clause-refused g c s is file =
    let told = g.D.Disk.told in
    let first = c.in-Ok.ensures {u = tt} in
    let said = c.in-Err-start.ensures {u = tt} in
    let has : HasOpened g.D.Disk.fault_count told c.args.disk c.in-Ok.journal = record { starts = first.started.0; unshut = first.started.1; texts = first.texts; counted = first.kept } in
    rw (c.disk.ensures, c.unstarted_by.ensures) (not_started g.D.Disk.fault_count told g.D.Disk.fuse c.args.disk c.in-Ok.journal has c.args.name s is file c.in-Err-start.fault c.in-Err-start.journal said.starts said.text)
