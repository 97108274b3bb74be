use Rattle.std.proofs.Common.{[], sym, ◌∙◌, subst, Option, Some, None, Ok}
use Rattle.tp_model.specs.declared.line.Action.{Action}
use Rattle.tp_model.specs.Happenings.{Task}
use Rattle.tp_world.specs.Stops.{stop_deed}
use Rattle.tp_world.specs.World.{Gives}
use Rattle.tp_world.proofs.Tasks.{none_gives}
use Rattle.tp_world.proofs.Trying.{task_asked}
use Rattle.tp_world.proofs.world.World.stop_request.Goals as goal

pub returns-in-None : goal.returns-in-None
returns-in-None c = λ w s z stops stand.
    let v = c.args.self.now in
    let stop = c.args.stop.now in
    subst (λ (o : Option Task). Gives (stop_deed w s z stop.call stop.fill [] o) c.args.lines.now (Ok tt) c.args.lines.now v) (sym (task_asked w v c.args.node c.args.request.now None stops.mirrors (sym c.in-None.is ∙ c.in_ok-request_in.ensures {u = tt})))
    (none_gives w [] c.args.lines.now tt v stops.mirrors)

pub returns-in-Some : goal.returns-in-Some
returns-in-Some c = λ w s z stops stand.
    let v = c.args.self.now in
    let stop = c.args.stop.now in
    let q = c.in-Some.request in
    let task = task_asked w v c.args.node c.args.request.now (Some q) stops.mirrors (sym c.in-Some.is ∙ c.in_ok-request_in.ensures {u = tt}) in
    subst (λ (o : Option Task). Gives (stop_deed w s z stop.call stop.fill [] o) c.args.lines.now c.stop_local.result c.stop_local.new.lines c.stop_local.new.self) (sym task)
    (c.stop_local.ensures w s z (Action.Do c.args.node c.args.request.now) stops stand task (λ up. tt))
