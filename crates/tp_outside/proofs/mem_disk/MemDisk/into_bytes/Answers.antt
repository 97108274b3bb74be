use Rattle.std.proofs.Common.{sym}
use Rattle.tp_outside.proofs.Records.{seen_after}
use Rattle.tp_outside.proofs.mem_disk.MemDisk.into_bytes.Goals as goal

pub returns : goal.returns
returns c = sym (seen_after c.args.self.bytes.items c.args.self.changes)
