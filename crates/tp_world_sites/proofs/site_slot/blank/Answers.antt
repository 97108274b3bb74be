use Rattle.tp_outside.specs.MemDisk.{recorded}
use Rattle.tp_world_sites.proofs.Logs.{blank_started}
use Rattle.tp_world_sites.proofs.site_slot.blank.Goals as goal

pub returns-in-Ok : goal.returns-in-Ok
returns-in-Ok c = blank_started c.in-Ok.journal (recorded c.args.disk).story c.requires ((c.in-Ok.ensures {u = tt}).started)
