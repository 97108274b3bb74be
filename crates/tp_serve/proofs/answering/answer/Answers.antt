use Rattle.std.proofs.Common.{◌≡◌, refl, sym, subst, rules, Result, Err, List}
use Rattle.tp_records.specs.declared.body.Output.{Output}
use Rattle.tp_site.specs.declared.faults.SiteFault.{SiteFault}
use Rattle.tp_streams.specs.declared.stop.Stop.{Stop}
use Rattle.tp_site.specs.Events.{all_nodes}
use Rattle.tp_serve.specs.Answering.{Answers, IsAnswerStop}
use Rattle.tp_serve.proofs.Replies.{given_so, refused_so, stops_so, answer_stop}
use Rattle.tp_serve.proofs.answering.answer.Goals as goal

pub returns-in-Ok-clause-answers : goal.returns-in-Ok-clause-answers
returns-in-Ok-clause-answers g c o gs at is_open =
    given_so g.K.Keeper.standing o gs c.args.at c.args.site.now c.args.event.now c.event.new.self c.in-Ok.outputs ((c.in-Ok.ensures {u = tt}).steps all_nodes o gs at refl) ((c.in-Ok.ensures {u = tt}).text all_nodes o gs at refl)

pub returns-in_ok-refusal-in-Err-Refused-clause-answers : goal.returns-in_ok-refusal-in-Err-Refused-clause-answers
returns-in_ok-refusal-in-Err-Refused-clause-answers g c o gs at is_open =
    let steps = rw c.in-Err-Refused.field-0-is at ((c.in-Err-Refused.ensures {u = tt}).steps all_nodes o gs at refl) in
    refused_so g.K.Keeper.standing o gs c.args.at c.args.site.now c.args.event.now c.event.new.self c.in-Err-Refused.number c.in_ok-refusal-in-Err-Refused.field-0 steps (c.in_ok-refusal-in-Err-Refused.ensures {u = tt})

pub returns-in_err-refusal-in-Err-Refused-clause-answers : goal.returns-in_err-refusal-in-Err-Refused-clause-answers
returns-in_err-refusal-in-Err-Refused-clause-answers g c o gs at is_open =
    let fault : c.from_residual.result ≡ Err Stop.NoMemory = search rules in
    let steps = rw c.in-Err-Refused.field-0-is at ((c.in-Err-Refused.ensures {u = tt}).steps all_nodes o gs at refl) in
    subst (λ (r : Result (List Output) Stop). Answers g.K.Keeper.standing o gs c.args.at c.args.site.now c.args.event.now r c.event.new.self) (sym fault)
    (stops_so g.K.Keeper.standing o gs c.args.at c.args.site.now c.args.event.now c.event.new.self (SiteFault.Refused c.in-Err-Refused.number) is_open steps tt)

pub returns-in-Err : goal.returns-in-Err
returns-in-Err g c = record {
  answers = λ o gs at is_open.
      subst (λ (s : Stop). Answers g.K.Keeper.standing o gs c.args.at c.args.site.now c.args.event.now (Err s) c.event.new.self) (sym c.stop_of.ensures)
      (stops_so g.K.Keeper.standing o gs c.args.at c.args.site.now c.args.event.now c.event.new.self c.in-Err.fault is_open ((c.in-Err.ensures {u = tt}).steps all_nodes o gs at refl) ((c.in-Err.ensures {u = tt}).text all_nodes o gs at refl));
  stops = subst (IsAnswerStop c.args.at) (sym c.stop_of.ensures) (answer_stop c.args.at c.in-Err.fault);
  lasting = (c.in-Err.ensures {u = tt}).lasting;
}
