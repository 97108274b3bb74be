-- What was asked and what came of it say where the site has come to.
use Rattle.tp_site.proofs.Stepping.{stepping}
use Rattle.tp_site.proofs.Asked.{after_text}
use Rattle.tp_site.proofs.Ordered.{stepped_order}
use Rattle.tp_site.proofs.site.Site.event.Goals as goal

pub returns-clause-steps : goal.returns-clause-steps
returns-clause-steps g c = λ mine o gs at own. stepping g.K.Keeper.standing mine o gs c.args.self.now c.args.event.now c.take.result c.take.new.self at own c.take.ensures.plays

pub returns-clause-order : goal.returns-clause-order
returns-clause-order g c = λ mine o gs at own.
    let steps = stepping g.K.Keeper.standing mine o gs c.args.self.now c.args.event.now c.take.result c.take.new.self at own c.take.ensures.plays in
    stepped_order g.K.Keeper.standing mine o gs c.args.self.now c.args.event.now c.take.result c.take.new.self at steps

pub returns-clause-text : goal.returns-clause-text
returns-clause-text g c = λ mine o gs at own. after_text g.K.Keeper.standing mine o gs c.args.self.now c.args.event.now (g.K.Keeper.standing c.args.self.now.keeper).wide c.take.result at own c.take.ensures.text
