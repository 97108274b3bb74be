use Rattle.std.proofs.Common.{refl}
use Rattle.tp_outside.proofs.Records.{seen_after}
use Rattle.tp_outside.proofs.mem_disk.MemDisk.settle.Goals as goal

pub returns : goal.returns
returns c = rw (c.clear.ensures c.args.self.now.bytes.items, seen_after c.args.self.now.bytes.items c.args.self.now.changes) refl
