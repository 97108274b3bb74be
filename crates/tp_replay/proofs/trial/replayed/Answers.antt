use Rattle.tp_replay.proofs.Tried.{summed}
use Rattle.tp_replay.proofs.trial.replayed.Goals as goal

pub returns-in-Ok-sum_up-clause-summary : goal.returns-in-Ok-sum_up-clause-summary
returns-in-Ok-sum_up-clause-summary c =
    summed c.args.number c.args.nodes c.args.rounds c.in-Ok.made c.play_made.new.world c.in-Ok-sum_up.summary c.in-Ok.ensures ((c.in_default-play_made.ensures {u = tt}).played) c.in-Ok-sum_up.ensures
