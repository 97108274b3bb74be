use Rattle.tp_world_sites.proofs.Reopened.{reopens}
use Rattle.tp_world_sites.proofs.site_slot.SiteSlot.reopened.Goals as goal

pub returns : goal.returns
returns c = reopens c.args.self.now.site.keeper c.log-log.result.now c.shut-shut.result c.in_ok-disk.disk c.opened.result c.log-log.ensures c.shut-shut.ensures.is c.shut-shut.ensures.started c.list-records.ensures.texts (c.in_ok-disk.ensures {u = tt}) c.opened.ensures
