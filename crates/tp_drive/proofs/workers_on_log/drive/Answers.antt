use Rattle.std.proofs.Common.{◌≡◌, ◌≤◌, ℕ, IfOk, length, refl, sym, ap, ◌∙◌, subst}
use Rattle.tp_journal.specs.Journals.{Kept, standing_of}
use Rattle.tp_journal.specs.Records.{placed}
use Rattle.tp_shared_log.specs.Images.{Leaves}
use Rattle.tp_model.specs.NodeRun.{Opening}
use Rattle.tp_drive.specs.Begun.{IsBegun}
use Rattle.tp_drive.specs.Drives.{IsDriven, opening_on}
use Rattle.tp_drive.proofs.Booting.{front_begun, front_of, front_same, has_booted, leaves_booted, stops_fails, stops_text}
use Rattle.tp_drive.proofs.Outcomes.{if_err, if_errs, if_oks}
use Rattle.tp_drive.proofs.workers_on_log.drive.Goals as goal

-- the site has just started on the log
pub on_log-requires-clause-begun : goal.on_log-requires-clause-begun
on_log-requires-clause-begun g c = λ κs h.
    let site = c.in-Ok.site in
    let name = c.args.name in
    let booted = has_booted _ c.args.journal name site (λ j. refl) (λ j. refl) (λ j. refl) c.in-Ok.ensures.starts in
    let begun = front_begun c.args.journal name site.nodes.boot site.keeper booted in
    let here = subst (λ k. IsBegun (placed k.wide k.list) k.wide (front_of k name) name site.nodes.boot) (sym c.keeper-journal.ensures) begun in
    let j = c.keeper-journal.result in
    subst (λ (b : ℕ). IsBegun (placed j.wide j.list) j.wide (front_of j name) name b) (sym c.boot-boot.ensures) here

-- what the site started on is what the journal had
pub returns-clause-done : goal.returns-clause-done
returns-clause-done g c =
    let site = c.in-Ok.site in
    let name = c.args.name in
    let booted = has_booted _ c.args.journal name site (λ j. refl) (λ j. refl) (λ j. refl) c.in-Ok.ensures.starts in
    let same : front_of c.keeper-journal.result name ≡ opening_on c.args.journal name = ap (λ k. front_of k name) c.keeper-journal.ensures ∙ front_same c.args.journal name site.nodes.boot site.keeper booted in
    subst (λ (o : Opening). IfOk c.on_log.result (λ d. IsDriven o c.args.workers c.args.events.now d.outs d.receipts d.journal.wide d.journal.list)) same c.on_log.ensures.done

pub returns-clause-fails : goal.returns-clause-fails
returns-clause-fails g c =
    let site = c.in-Ok.site in
    let name = c.args.name in
    let booted = has_booted _ c.args.journal name site (λ j. refl) (λ j. refl) (λ j. refl) c.in-Ok.ensures.starts in
    let same : front_of c.keeper-journal.result name ≡ opening_on c.args.journal name = ap (λ k. front_of k name) c.keeper-journal.ensures ∙ front_same c.args.journal name site.nodes.boot site.keeper booted in
    let counted = subst (λ k. g.D.Disk.fault_count c.args.journal.disk ≤ g.D.Disk.fault_count k.disk) (sym c.keeper-journal.ensures) c.in-Ok.ensures.starts.forced.1.faults in
    if_err c.on_log.result _ _ c.on_log.ensures.stops
    (λ e s. stops_fails (λ (j : Kept _). standing_of j (g.D.Disk.fault_count j.disk) (g.D.Disk.told j.disk) (g.D.Disk.fuse j.disk)) c.args.journal name c.args.workers c.args.events.now (front_of c.keeper-journal.result name) (g.D.Disk.fault_count c.keeper-journal.result.disk) e.0 e.1 same counted s)

pub returns-clause-images : goal.returns-clause-images
returns-clause-images g c =
    let site = c.in-Ok.site in
    let name = c.args.name in
    let booted = has_booted _ c.args.journal name site (λ j. refl) (λ j. refl) (λ j. refl) c.in-Ok.ensures.starts in
    let keeper = c.keeper-journal in
    if_oks c.on_log.result _ _ _ c.on_log.ensures.wide c.on_log.ensures.images
    (λ d wide leaves. leaves_booted (λ (j : Kept _). standing_of j (g.D.Disk.fault_count j.disk) (g.D.Disk.told j.disk) (g.D.Disk.fuse j.disk)) c.args.journal name site c.in-Ok.ensures.starts booted
    (placed keeper.result.wide keeper.result.list) (g.D.Disk.told d.journal.disk) d.journal (ap (λ (j : Kept _). placed j.wide j.list) keeper.ensures) (wide ∙ ap (λ (j : Kept _). j.wide) keeper.ensures) c.in-Ok.ensures.text
    (subst (λ (j : Kept _). Leaves (g.D.Disk.told j.disk) (length (placed keeper.result.wide keeper.result.list)) d.journal.wide d.journal.list d.journal.shut (g.D.Disk.told d.journal.disk)) keeper.ensures leaves))

pub returns-clause-images_left : goal.returns-clause-images_left
returns-clause-images_left g c =
    let site = c.in-Ok.site in
    let name = c.args.name in
    let booted = has_booted _ c.args.journal name site (λ j. refl) (λ j. refl) (λ j. refl) c.in-Ok.ensures.starts in
    let keeper = c.keeper-journal in
    if_errs c.on_log.result _ _ _ c.on_log.ensures.wide_left c.on_log.ensures.images_left
    (λ e wide leaves begun. leaves_booted (λ (j : Kept _). standing_of j (g.D.Disk.fault_count j.disk) (g.D.Disk.told j.disk) (g.D.Disk.fuse j.disk)) c.args.journal name site c.in-Ok.ensures.starts booted
    (placed keeper.result.wide keeper.result.list) (g.D.Disk.told e.0.disk) e.0 (ap (λ (j : Kept _). placed j.wide j.list) keeper.ensures) (wide ∙ ap (λ (j : Kept _). j.wide) keeper.ensures) c.in-Ok.ensures.text
    (subst (λ (j : Kept _). Leaves (g.D.Disk.told j.disk) (length (placed keeper.result.wide keeper.result.list)) e.0.wide e.0.list e.0.shut (g.D.Disk.told e.0.disk)) keeper.ensures leaves))

pub returns-clause-text : goal.returns-clause-text
returns-clause-text g c =
    if_err c.on_log.result _ _ c.on_log.ensures.stops
    (λ e s. stops_text (λ (j : Kept _). standing_of j (g.D.Disk.fault_count j.disk) (g.D.Disk.told j.disk) (g.D.Disk.fuse j.disk)) c.args.journal c.args.name c.args.workers c.args.events.now (front_of c.keeper-journal.result c.args.name) (g.D.Disk.fault_count c.keeper-journal.result.disk) e.0 e.1 s)
