-- What the call gave is written, and then where the program stands.
use Rattle.tp_tx.specs.Transcript.{asks, stand_after}
use Rattle.tp_tx.proofs.Responding.{ended, gave_not}
use Rattle.tp_tx.proofs.answering.respond.Goals as goal

pub returns-in-Ok-clause-responds : goal.returns-in-Ok-clause-responds
returns-in-Ok-clause-responds g c = λ o gs begun faults running.
    ended g.K.Keeper.standing o gs begun faults c.args.face.now running c.call-given.new.face c.args.at (asks (stand_after o gs) c.args.frame.now) c.call-given.result c.put_given.new.out c.put_end.new.out c.put_end.result
    (c.call-given.ensures.calls o gs running.face running.node) c.in-Ok.ensures c.put_end.ensures.end c.put_end.ensures.memory

pub returns-in-Err-clause-responds : goal.returns-in-Err-clause-responds
returns-in-Err-clause-responds g c = λ o gs begun faults running.
    gave_not g.K.Keeper.standing o gs begun faults c.args.face.now running c.call-given.new.face c.args.at (asks (stand_after o gs) c.args.frame.now) c.call-given.result c.in-Err.stop c.put_given.new.out
    (c.call-given.ensures.calls o gs running.face running.node) c.in-Err.ensures
