-- The frame is let in, and then answered.
use Rattle.tp_tx.proofs.Turning.{let_in}
use Rattle.tp_tx.proofs.serving.answer_body.Goals as goal

pub returns-in-Ok-clause-answers : goal.returns-in-Ok-clause-answers
returns-in-Ok-clause-answers g c = λ o gs begun faults running.
    let_in g.J.Keeper.standing o gs begun faults c.args.at c.args.declares.now c.args.body.now c.answer_frame.new.face c.admit.new.declares c.args.waiting.now c.answer_frame.new.waiting c.in-Ok.frame c.answer_frame.result c.in-Ok.ensures.admits
    (c.answer_frame.ensures.answers o gs begun faults running)
