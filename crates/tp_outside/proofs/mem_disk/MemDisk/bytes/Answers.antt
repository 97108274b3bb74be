use Rattle.std.proofs.Common.{sym, ◌∙◌}
use Rattle.tp_outside.proofs.Records.{seen_after}
use Rattle.tp_outside.proofs.mem_disk.MemDisk.bytes.Goals as goal

pub returns : goal.returns
returns c = c.deref.ensures.value ∙ sym (seen_after c.args.self.now.bytes.items c.args.self.now.changes)
