use Rattle.tp_bound.proofs.bound.Bound.hear.Goals as goal

pub returns-in-Prepare-clause-moments : goal.returns-in-Prepare-clause-moments
returns-in-Prepare-clause-moments g c = rw c.in-Prepare.is c.prepare.ensures.moments
