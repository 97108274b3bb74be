-- A site is started, and its face is made.
use Rattle.std.proofs.Common.{inl, inr, refl}
use Rattle.tp_serve.specs.Progress.{journal_of}
use Rattle.tp_tx.proofs.Transacted.{has_made, has_failed}
use Rattle.tp_tx.proofs.serving.open_face.Goals as goal

pub returns-in-Err-clause-refused : goal.returns-in-Err-clause-refused
returns-in-Err-clause-refused g c s is file = inl ((c.in-Err.ensures {u = tt}).refused s is file)

pub returns-in-Ok-make_face-clause-made : goal.returns-in-Ok-make_face-clause-made
returns-in-Ok-make_face-clause-made g c =
    has_made (journal_of g.D.Disk.fault_count g.D.Disk.told g.D.Disk.fuse) c.args.name (g.D.Disk.told c.args.disk) (g.D.Disk.fault_count c.args.disk) c.in-Ok.site c.in-Ok-make_face.face (c.in-Ok.ensures {u = tt}).started (c.in-Ok-make_face.ensures {u = tt}).made

pub returns-in-Err-make_face-clause-refused : goal.returns-in-Err-make_face-clause-refused
returns-in-Err-make_face-clause-refused g c s is file = inr (
  refl,
  has_failed (journal_of g.D.Disk.fault_count g.D.Disk.told g.D.Disk.fuse) c.args.name (g.D.Disk.told c.args.disk) (g.D.Disk.told c.in-Err-make_face.disk) (g.D.Disk.fault_count c.args.disk) c.in-Ok.site s (c.in-Ok.ensures {u = tt}).started is file
      (c.in-Err-make_face.ensures {u = tt}).unmade,
)
