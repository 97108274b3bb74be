use Rattle.tp_site.specs.Site.{told_records}
use Rattle.tp_site.proofs.Lanes.{alone}
use Rattle.tp_site.proofs.Starting.{in_order}
use Rattle.tp_site.proofs.site.found.Goals as goal

pub returns-clause-ok : goal.returns-clause-ok
returns-clause-ok g c =
    let told = g.K.Keeper.standing c.args.keeper.now in
    alone told c.args.name c.last_boot-last.result c.in_ok-nodes.nodes (in_order (told_records told) c.in_ok-i.field-0 c.in_ok-i.ensures c.in_default.not-Some) c.last_boot-last.ensures
    c.in_ok-nodes.ensures.lane
