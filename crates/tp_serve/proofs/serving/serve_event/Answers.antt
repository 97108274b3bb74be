use Rattle.std.proofs.Common.{◌≡◌, ◌∷◌, ◌++◌, [], List, ℕ, inr, refl, sym, ap, ◌∙◌, subst, Err, Result, rules}
use Rattle.tp_records.specs.declared.body.Output.{Output}
use Rattle.tp_model.specs.NodeTranscript.{outputs_bytes}
use Rattle.tp_streams.specs.declared.stop.Stop.{Stop}
use Rattle.tp_serve.specs.Progress.{ServesOne, answer_bytes}
use Rattle.tp_serve.proofs.Served.{answered, unanswered}
use Rattle.tp_serve.proofs.serving.serve_event.Goals as goal

pub returns-in_err-outputs-clause-serves : goal.returns-in_err-outputs-clause-serves
returns-in_err-outputs-clause-serves g c o gs begun faults serving =
    let waiting = c.args.waiting.now in
    let fault : c.from_residual.result ≡ Err c.in_err-outputs.field-0.0 = search rules in
    subst (λ (r : Result (Unit {0}) Stop). ServesOne g.J.Keeper.standing o gs begun faults c.args.at c.args.event.now r c.answer.new.site waiting waiting) (sym fault)
    (unanswered g.J.Keeper.standing o gs begun faults c.args.site.now serving c.args.event.now c.args.at c.in_err-outputs.field-0.0 c.answer.new.site waiting
    ((c.in_err-outputs.ensures {u = tt}).answers o gs serving.at serving.is_open))

pub returns-in_err-reply-clause-serves : goal.returns-in_err-reply-clause-serves
returns-in_err-reply-clause-serves g c o gs begun faults serving =
    let waiting = c.args.waiting.now in
    let fault : c.from_residual-in_err-reply.result ≡ Err Stop.NoMemory = search rules in
    subst (λ (r : Result (Unit {0}) Stop). ServesOne g.J.Keeper.standing o gs begun faults c.args.at c.args.event.now r c.answer.new.site waiting waiting) (sym fault) (
      inr (answered g.J.Keeper.standing o gs begun faults c.args.site.now serving c.args.event.now c.in_ok-outputs.outputs c.answer.new.site ((c.in_ok-outputs.ensures {u = tt}).answers o gs serving.at serving.is_open)),
      refl,
    )

pub returns-in_err-extend_from_slice-clause-serves : goal.returns-in_err-extend_from_slice-clause-serves
returns-in_err-extend_from_slice-clause-serves g c o gs begun faults serving =
    let fault : c.from_residual-in_err-extend_from_slice.result ≡ Err Stop.NoMemory = search rules in
    subst (λ (r : Result (Unit {0}) Stop). ServesOne g.J.Keeper.standing o gs begun faults c.args.at c.args.event.now r c.answer.new.site c.args.waiting.now c.extend_from_slice.new.self) (sym fault) (
      inr (answered g.J.Keeper.standing o gs begun faults c.args.site.now serving c.args.event.now c.in_ok-outputs.outputs c.answer.new.site ((c.in_ok-outputs.ensures {u = tt}).answers o gs serving.at serving.is_open)),
      (c.in_err-extend_from_slice.ensures {u = tt}).err,
    )

pub returns-clause-serves : goal.returns-clause-serves
returns-clause-serves g c o gs begun faults serving =
    let event = c.args.event.now in
    let said = (c.in_ok-outputs.ensures {u = tt}).answers o gs serving.at serving.is_open in
    let next = answered g.J.Keeper.standing o gs begun faults c.args.site.now serving event c.in_ok-outputs.outputs c.answer.new.site said in
    let out : c.as_slice.result.now ≡ answer_bytes o gs event =
    c.as_slice.ensures ∙ (c.in_ok-reply.ensures {u = tt}) ∙ ap (λ (os : List Output). outputs_bytes (os ++ Output.Over ∷ [])) said.given in
    (next, (c.in_ok-extend_from_slice.ensures {u = tt}).ok ∙ ap (λ (l : List ℕ). c.args.waiting.now ++ l) out)
