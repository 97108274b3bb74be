use Rattle.std.proofs.Common.{rules}
use Rattle.tp_outside.proofs.Records.{seen_after}
use Rattle.tp_outside.proofs.mem_disk.MemDiskDisk.len.Goals as goal

pub returns-clause-len : goal.returns-clause-len
returns-clause-len c = rw (seen_after c.args.self.now.bytes.items c.args.self.now.changes) (search rules)
