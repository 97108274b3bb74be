-- The declaration is an event of the site.
use Rattle.std.proofs.Common.{◌∙◌, sym, ap, subst, []}
use Rattle.tp_journal.specs.Told.{LeavesOnly}
use Rattle.tp_serve.specs.Images.{IsNodeImage}
use Rattle.tp_serve.specs.Progress.{journal_of}
use Rattle.tp_tx.proofs.Transacted.{made, unmade, undeclared_yet}
use Rattle.tp_tx.proofs.serving.make_face.Goals as goal

pub returns-in-Ok-clause-made : goal.returns-in-Ok-clause-made
returns-in-Ok-clause-made g c = λ o begun faults serving.
    made (journal_of g.D.Disk.fault_count g.D.Disk.told g.D.Disk.fuse) o begun faults c.args.site serving c.in-Ok.face ((c.in-Ok.ensures {u = tt}).goes o [] serving.at)

pub returns-in-Err-clause-unmade : goal.returns-in-Err-clause-unmade
returns-in-Err-clause-unmade g c = λ o begun faults serving.
    let standing = journal_of g.D.Disk.fault_count g.D.Disk.told g.D.Disk.fuse in
    subst (λ d. LeavesOnly (IsNodeImage o [] 0) begun (g.D.Disk.told d)) (sym (c.disk.ensures ∙ ap (λ k. k.disk) c.keeper.ensures))
    (unmade standing o begun faults c.args.site serving c.in-Err.site c.in-Err.field-0-1
    ((c.in-Err.ensures {u = tt}).fresh (undeclared_yet standing o begun faults c.args.site serving) serving.is_open)
    ((c.in-Err.ensures {u = tt}).goes o [] serving.at).steps)
