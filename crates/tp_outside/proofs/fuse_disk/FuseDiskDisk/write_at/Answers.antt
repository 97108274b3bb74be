use Rattle.std.proofs.Common.{◌≡◌, arith, Result, Ok, Err}
use Rattle.std.specs.Prelude.{OnErr}
use Rattle.std.proofs.lemmas.Grind.{common_steps}
use Rattle.tp_outside.specs.declared.failed.Failed.{Failed}
use Rattle.tp_outside.specs.declared.mem_disk.Attempt.TheVariants.{Starved}
use Rattle.tp_outside.specs.FuseDisk.{fused}
use Rattle.tp_outside.specs.MemDisk.{recorded, DiskWrites}
use Rattle.tp_outside.proofs.Fuses.{counted_fails}
use Rattle.tp_outside.proofs.fuse_disk.FuseDiskDisk.write_at.Goals as goal

on_err : (r : Result (Unit {0}) Failed) (P Q : Type 0) → (P → Q) → OnErr r P → OnErr r Q
on_err (Ok u) P Q f h = tt
on_err (Err e) P Q f h = f h

pub returns-clause-stops : goal.returns-clause-stops
returns-clause-stops c =
    let came = c.attempt_write-came.result in
    let fed : ¬ (came ≡ Starved) = grind (arith, common_steps) in
    on_err c.end.result _ _ (counted_fails (DiskWrites c.args.at c.args.piece.now) (fused c.args.self.now) (fused c.end.new.self) (recorded c.attempt_write-came.new.self) c.if-self.false came fed c.attempt_write-came.ensures.ends) c.end.ensures.err
