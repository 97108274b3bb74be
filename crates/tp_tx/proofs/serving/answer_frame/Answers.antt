-- The answer is made, and then put behind those that wait.
use Rattle.std.proofs.Common.{Err, Result, List, ℕ, subst, sym}
use Rattle.tp_streams.specs.declared.stop.Stop.{Stop}
use Rattle.tp_tx.specs.Transcript.{asks, stand_after}
use Rattle.tp_tx.specs.Progress.{AnswersFrame}
use Rattle.tp_tx.proofs.Writing.{put_behind, unanswered, no_room}
use Rattle.tp_tx.proofs.serving.answer_frame.Goals as goal

pub returns-in-Err-clause-answers : goal.returns-in-Err-clause-answers
returns-in-Err-clause-answers g c = λ o gs begun faults running.
    unanswered g.J.Keeper.standing o gs begun faults c.args.at (asks (stand_after o gs) c.args.frame.now) c.respond.new.face c.respond.new.out c.respond.new.out c.in-Err.stop c.args.waiting.now (c.in-Err.ensures.responds o gs begun faults running)

pub returns-in-Ok-extend_from_slice-clause-answers : goal.returns-in-Ok-extend_from_slice-clause-answers
returns-in-Ok-extend_from_slice-clause-answers g c = λ o gs begun faults running.
    put_behind g.J.Keeper.standing o gs begun faults c.args.at (asks (stand_after o gs) c.args.frame.now) c.respond.new.face c.respond.new.out c.as_slice.result.now c.args.waiting.now c.extend_from_slice.new.self (c.in-Ok.ensures.responds o gs begun faults running) c.as_slice.ensures
    c.in-Ok-extend_from_slice.ensures.ok

pub returns-in-Err-extend_from_slice-clause-answers : goal.returns-in-Err-extend_from_slice-clause-answers
returns-in-Err-extend_from_slice-clause-answers g c = λ o gs begun faults running.
    let standing = g.J.Keeper.standing in
    let a = asks (stand_after o gs) c.args.frame.now in
    subst (λ (w : List ℕ). AnswersFrame standing o gs begun faults c.args.at a (Err Stop.NoMemory) c.respond.new.face c.args.waiting.now w) (sym c.in-Err-extend_from_slice.ensures.err)
    (no_room standing o gs begun faults c.args.at a c.respond.new.face c.respond.new.out c.respond.new.out c.args.waiting.now (c.in-Ok.ensures.responds o gs begun faults running))
