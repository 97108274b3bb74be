use Rattle.tp_site.proofs.Lanes.{resumed, resumed_at}
use Rattle.tp_site.proofs.site.Site.resume.Goals as goal

pub returns-in-Ok-clause-resumed : goal.returns-in-Ok-clause-resumed
returns-in-Ok-clause-resumed g c = resumed g.K.Keeper.standing c.args.keeper c.args.name c.args.boot c.args.lane c.args.lanes c.in-Ok.nodes c.in-Ok.ensures.lane

pub returns-in-Ok-clause-at : goal.returns-in-Ok-clause-at
returns-in-Ok-clause-at g c = λ o on.
    resumed_at g.K.Keeper.standing c.args.keeper c.args.name c.args.boot c.args.lane c.args.lanes (record { keeper = c.args.keeper; nodes = c.in-Ok.nodes; shut = _ }) o
    (resumed g.K.Keeper.standing c.args.keeper c.args.name c.args.boot c.args.lane c.args.lanes c.in-Ok.nodes c.in-Ok.ensures.lane) on
