use Rattle.tp_world_sites.proofs.Fresh.{fresh_started}
use Rattle.tp_world_sites.proofs.site_slot.SiteSlot.fresh.Goals as goal

pub returns-in-Ok : goal.returns-in-Ok
returns-in-Ok c = fresh_started c.in_ok-blank.field-0 c.args.name (record { site = c.in-Ok.site }) (c.in_ok-blank.ensures {u = tt}) ((c.in-Ok.ensures {u = tt}).starts)
