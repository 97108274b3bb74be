use Rattle.std.proofs.Common.{sym, subst, arith}
use Rattle.tp_serve.proofs.Starts.{HasOpened, unread}
use Rattle.tp_drive_tool.specs.Driving.{HasDriven, NotDriven}
use Rattle.tp_drive_tool.proofs.Drives.{driven, not_driven, unread_so}
use Rattle.tp_drive_tool.proofs.driving.drive_on.Goals as goal

pub returns-in-Err-clause-stops : goal.returns-in-Err-clause-stops
returns-in-Err-clause-stops g c s is file =
    let told = g.D.Disk.told in
    subst (NotDriven c.args.name c.args.workers c.args.events.now s (told c.in-Err.disk)) (sym c.of_journal.ensures)
    (unread_so c.args.name c.args.workers c.args.events.now s (told c.in-Err.disk) c.in-Err.fault (unread c.args.name (told c.args.disk) (told c.in-Err.disk) _ _ c.in-Err.fault c.in-Err.ensures.refused s is file))

pub returns-in-Ok-drive-clause-driven : goal.returns-in-Ok-drive-clause-driven
returns-in-Ok-drive-clause-driven g c s is file =
    let told = g.D.Disk.told in
    let first = c.in-Ok.ensures in
    let said = c.in-Ok-drive.ensures in
    let d = c.in-Ok-drive.driven in
    let has : HasOpened g.D.Disk.fault_count told c.args.disk c.in-Ok.journal = record { starts = first.started.0; unshut = first.started.1; texts = first.texts; counted = first.kept } in
    subst (λ disk. HasDriven c.args.name c.args.workers c.args.events.now s (told disk) d.outs) (sym c.disk.ensures)
    (driven g.D.Disk.fault_count told g.D.Disk.fuse c.args.disk c.in-Ok.journal has c.args.name c.args.workers c.args.events.now s is file d.journal d.outs d.receipts (omega (arith, c.requires.0)) said.images said.open said.done c.list-records.ensures.texts)

pub returns-in-Err-drive-clause-stops : goal.returns-in-Err-drive-clause-stops
returns-in-Err-drive-clause-stops g c s is file =
    let told = g.D.Disk.told in
    let first = c.in-Ok.ensures in
    let said = c.in-Err-drive.ensures in
    let has : HasOpened g.D.Disk.fault_count told c.args.disk c.in-Ok.journal = record { starts = first.started.0; unshut = first.started.1; texts = first.texts; counted = first.kept } in
    let status = subst (NotDriven c.args.name c.args.workers c.args.events.now s (told c.in-Err-drive.journal.disk)) (sym c.of_drive.ensures)
    (not_driven g.D.Disk.fault_count told g.D.Disk.fuse c.args.disk c.in-Ok.journal has c.args.name c.args.workers c.args.events.now s is file c.in-Err-drive.fault c.in-Err-drive.journal said.fails said.text said.images_left c.shut-shut.ensures.started.place c.list-records-in-Err-drive.ensures.texts) in
    subst (λ disk. NotDriven c.args.name c.args.workers c.args.events.now s (told disk) c.of_drive.result) (sym c.disk-in-Err-drive.ensures) status
