use Rattle.std.proofs.Common.{List, ◌++◌, ◌∷◌, [], ap, sym, ◌∙◌, subst}
use Rattle.tp_records.specs.declared.body.Output.{Output}
use Rattle.tp_model.specs.NodeRun.{node_run}
use Rattle.tp_drive.specs.Works.{Did, Working}
use Rattle.tp_drive.proofs.Runs.{outputs_next}
use Rattle.tp_drive.proofs.lane.Lane.give.Goals as goal

-- the event is done
pub returns-clause-done : goal.returns-clause-done
returns-clause-done g c = λ mine gs own did.
    let o = g.L.Begun.opening in
    let was = subst (λ (w : Working). Did g.L.Stood.stood g.L.Stood.wide o mine w gs) (sym c.self.view_is) did in
    let step = c.in-Ok.ensures.done mine gs own was.at in
    record {
      at = step.0;
      answers = c.push_back_reserved.ensures.items
          ∙ ap (λ (l : List (List Output)). l ++ c.in-Ok.outs ∷ []) (c.reserve.ensures.items ∙ was.answers)
          ∙ ap (λ (x : List Output). (node_run o gs).outputs ++ x ∷ []) step.1
          ∙ sym (outputs_next o gs c.args.event.now);
    }

-- nothing of it is so
pub returns-in-Err-clause-stopped : goal.returns-in-Err-clause-stopped
returns-in-Err-clause-stopped g c = λ mine gs own did.
    let was = subst (λ (w : Working). Did g.L.Stood.stood g.L.Stood.wide g.L.Begun.opening mine w gs) (sym c.self.view_is) did in
    record { at = c.in-Err.ensures.stopped mine gs own was.at; answers = c.reserve.ensures.items ∙ was.answers }
