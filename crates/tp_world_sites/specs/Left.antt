-- What a stop in the force of a record leaves of a disk.
use Rattle.std.specs.Prelude.{◌≡◌, ◌≢◌, true, None, List, [], reverse, Result, Ok, Err}
use Rattle.std.specs.List.{AllByRecursion}
use Rattle.tp_logrec.specs.declared.record.LogRec.{LogRec}
use Rattle.tp_outside.specs.FuseDisk.{fused, Passes}
use Rattle.tp_outside.specs.MemDisk.{recorded, fresh, DiskSyncs}
use Rattle.tp_outside.specs.declared.fuse_disk.FuseDisk.{FuseDisk}
use Rattle.tp_outside.specs.declared.mem_disk.MemDisk.{MemDisk}
use Rattle.tp_journal.specs.Journals.{Kept}
use Rattle.tp_journal.specs.Log.{place_behind}
use Rattle.tp_journal.specs.Records.{HasText, bodies_of}
use Rattle.tp_model.specs.Disk.{Disk, disk_bytes, remains}
use Rattle.tp_world_sites.specs.declared.fault.WorldFault.{WorldFault}
use Rattle.tp_world_sites.specs.declared.left.Stop.{Stop}

-- its closing gate is closed, and each of its records has a text
pub record IsReadable (d : Disk) : Type 0 where
  pub closed : d.gate ≢ 1
  pub texts : AllByRecursion (HasText true) (reverse d.records)

-- a stop in the force of the record leaves what the definitions say; but for that only memory may be wanting
abbrev pub LeavesBy : Stop → LogRec → Disk → Result MemDisk WorldFault → Type 0
LeavesBy stop r d (Ok left) = recorded left ≡ fresh (disk_bytes (remains stop.call stop.fill r d).disk) []
LeavesBy stop r d (Err WorldFault.Name) = ⊥
LeavesBy stop r d (Err (WorldFault.Limit what)) = ⊥
LeavesBy stop r d (Err WorldFault.NoMemory) = Unit {0}

-- a journal on a disk that stops has started: it has these records, and made one call of the disk, a sync
pub record IsFused (disk : FuseDisk) (rs : List LogRec) (j : Kept FuseDisk) : Type 0 where
  pub list : j.list ≡ rs
  pub wide : j.wide ≡ true
  pub gate : j.gate ≡ place_behind (bodies_of true rs)
  pub unshut : j.shut ≡ None
  pub syncs : Passes DiskSyncs (fused disk) (fused j.disk)

abbrev pub FuseStarts : FuseDisk → List LogRec → Result (Kept FuseDisk) WorldFault → Type 0
FuseStarts disk rs (Ok j) = IsFused disk rs j
FuseStarts disk rs (Err WorldFault.Name) = ⊥
FuseStarts disk rs (Err (WorldFault.Limit what)) = ⊥
FuseStarts disk rs (Err WorldFault.NoMemory) = Unit {0}
