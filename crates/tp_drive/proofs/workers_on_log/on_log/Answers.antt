use Rattle.std.proofs.Common.{ℕ, drop, length, ap, sym, ◌∙◌, subst, arith}
use Rattle.tp_journal.specs.Records.{placed}
use Rattle.tp_shared_log.specs.Images.{Leaves}
use Rattle.tp_shared_log.specs.Locks.{Extends}
use Rattle.tp_shared_log.proofs.Placed.{length-placed}
use Rattle.tp_shared_log.proofs.Telling.{tells_first, leaves_then}
use Rattle.tp_journal.specs.Journals.{Kept}
use Rattle.tp_drive.specs.Drives.{RunsShort}
use Rattle.tp_drive.proofs.Causes.{opened_short, stood_short}
use Rattle.tp_drive.proofs.Outcomes.{if_err, if_ok}
use Rattle.tp_drive.proofs.Slips.{slips_many}
use Rattle.std.specs.List.{sum_by}
use Rattle.tp_model.specs.Lanes.{IsInterleaving}
use Rattle.tp_drive.proofs.workers_on_log.on_log.Goals as goal

-- where a lane stopped for another cause than memory, a stake is spent, and the log shows why
pub finish-requires-clause-cause : goal.finish-requires-clause-cause
finish-requires-clause-cause g c = λ event is.
    let less = c.in-Ok-ran.ensures.stopped event is in
    c.close_with-journal.ensures.spent (omega (arith, less, c.requires.stood.3))

-- what the lanes were given is what the log has
pub finish-requires-clause-woven : goal.finish-requires-clause-woven
finish-requires-clause-woven g c =
    let j = c.close_with-journal.result.0 in
    let ran = c.in-Ok-ran.ensures in
    let many = slips_many c.in-Ok-ran.slips.items ∙ ap (sum_by (λ l. length l)) ran.slips ∙ sym ran.receipts in
    subst (IsInterleaving (drop (length g.L.Stood.stood) (placed j.wide j.list))) ran.slips (c.close_with-journal.ensures.woven many)

-- no worker ran
pub returns-in_default-clause-stops : goal.returns-in_default-clause-stops
returns-in_default-clause-stops g c =
    opened_short g.L.Begun.opening c.args.count c.args.events.now g.L.Stood.stood g.L.Stood.wide c.args.journal.wide c.args.journal.list c.requires.begun.records c.requires.stood.0

pub returns-in-Err-clause-stops : goal.returns-in-Err-clause-stops
returns-in-Err-clause-stops g c =
    subst (λ (k : Kept _). RunsShort g.L.Begun.opening c.args.count c.args.events.now k.list) (sym c.in-Err.ensures.err)
    (opened_short g.L.Begun.opening c.args.count c.args.events.now g.L.Stood.stood g.L.Stood.wide c.args.journal.wide c.args.journal.list c.requires.begun.records c.requires.stood.0)

pub returns-in_default-ran-clause-stops : goal.returns-in_default-ran-clause-stops
returns-in_default-ran-clause-stops g c =
    let j = c.close-journal.result.0 in
    stood_short g.L.Begun.opening c.args.count c.args.events.now g.L.Stood.stood g.L.Stood.wide j.wide j.list c.requires.begun.records
    (subst (λ (k : ℕ). Extends g.L.Stood.stood k (placed j.wide j.list)) c.in_default-ran.ensures.idle c.close-journal.ensures.list)

-- the log as it was closed
pub returns-clause-images : goal.returns-clause-images
returns-clause-images g c =
    if_ok c.finish.result _ _ c.finish.ensures.journal.1
    (λ d same. subst (λ (j : Kept _). Leaves g.L.Stood.story (length g.L.Stood.stood) j.wide j.list j.shut (g.D.Disk.told j.disk)) (sym same) c.close_with-journal.ensures.images)

pub returns-clause-images_left : goal.returns-clause-images_left
returns-clause-images_left g c =
    if_err c.finish.result _ _ c.finish.ensures.journal.0
    (λ e same. subst (λ (j : Kept _). Leaves g.L.Stood.story (length g.L.Stood.stood) j.wide j.list j.shut (g.D.Disk.told j.disk)) (sym same) c.close_with-journal.ensures.images)

-- no worker ran, and the log rests
pub returns-in_default-clause-images_left : goal.returns-in_default-clause-images_left
returns-in_default-clause-images_left g c =
    let j = c.args.journal in
    let many = ap length c.requires.stood.0 ∙ length-placed j.wide j.list in
    let shut = c.shut-shut in
    leaves_then g.D.Disk.told g.L.Stood.story (length g.L.Stood.stood) j shut.result
    (tells_first g.D.Disk.told g.L.Stood.story (length g.L.Stood.stood) j shut.result c.requires.stood.4 many c.requires.open shut.ensures.is shut.ensures.started)
    shut.ensures.is shut.ensures.started

pub returns-in-Err-clause-images_left : goal.returns-in-Err-clause-images_left
returns-in-Err-clause-images_left g c =
    let j = c.args.journal in
    let many = ap length c.requires.stood.0 ∙ length-placed j.wide j.list in
    let shut = c.shut-shut in
    let leaves = leaves_then g.D.Disk.told g.L.Stood.story (length g.L.Stood.stood) j shut.result
    (tells_first g.D.Disk.told g.L.Stood.story (length g.L.Stood.stood) j shut.result c.requires.stood.4 many c.requires.open shut.ensures.is shut.ensures.started)
    shut.ensures.is shut.ensures.started in
    subst (λ (k : Kept _). Leaves g.L.Stood.story (length g.L.Stood.stood) k.wide k.list k.shut (g.D.Disk.told k.disk)) (sym c.in-Err.ensures.err) leaves
