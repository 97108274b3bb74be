use Rattle.tp_bound.specs.Told.{wish}
use Rattle.tp_bound.proofs.Telling.{opens_still}
use Rattle.tp_bound.proofs.bound.Bound.told.Goals as goal

pub returns-in_err-answer-clause-moments : goal.returns-in_err-answer-clause-moments
returns-in_err-answer-clause-moments g c = λ node.
    let b = c.args.self.now in
    opens_still g.D.Disk.told (wish b.store b.current b.gate c.args.ind.now) _ b c.hear.new.self.disk c.self.view_is c.count-count.ensures.started c.self.invariant.0 c.hear.ensures.moments

pub returns-clause-moments : goal.returns-clause-moments
returns-clause-moments g c = λ node.
    let b = c.args.self.now in
    opens_still g.D.Disk.told (wish b.store b.current b.gate c.args.ind.now) _ b c.hear.new.self.disk c.self.view_is c.count-count.ensures.started c.self.invariant.0 c.hear.ensures.moments
