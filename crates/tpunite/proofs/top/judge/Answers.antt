-- Why there was no verdict.
use Rattle.tpunite.proofs.top.judge.Goals as goal

pub returns-clause-unjudged : goal.returns-clause-unjudged
returns-clause-unjudged g c =
    c.status_of.ensures.unjudged (g.S.Source.left c.args.source.now) (g.S.Source.fault_count c.args.source.now) (g.S.Source.fault_count c.unite.new.source) c.in-Err.ensures.stops
