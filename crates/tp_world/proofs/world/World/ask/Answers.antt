use Rattle.std.proofs.Common.{◌∙◌, sym, subst, [], Some, None, Ok}
use Rattle.tp_model.specs.Lines.{within_limits}
use Rattle.tp_world.specs.World.{Gives, task_turn}
use Rattle.tp_world.proofs.Tasks.{none_gives}
use Rattle.tp_world.proofs.Trying.{task_asked}
use Rattle.tp_world.proofs.world.World.ask.Goals as goal

pub returns-in-None : goal.returns-in-None
returns-in-None c = λ w h.
    let v = c.args.self.now in
    subst (λ o. Gives (within_limits (task_turn w [] o)) c.args.lines.now (Ok tt) c.args.lines.now v) (sym (task_asked w v c.args.node c.args.request.now None h (sym c.in-None.is ∙ c.in_ok-request_in.ensures {u = tt})))
    (none_gives w [] c.args.lines.now tt v h)

pub returns-in-Some : goal.returns-in-Some
returns-in-Some c = λ w h.
    let v = c.args.self.now in
    let q = c.in-Some.request in
    subst (λ o. Gives (within_limits (task_turn w [] o)) c.args.lines.now c.local.result c.local.new.lines c.local.new.self)
    (sym (task_asked w v c.args.node c.args.request.now (Some q) h (sym c.in-Some.is ∙ c.in_ok-request_in.ensures {u = tt})))
    (c.local.ensures w h (λ up. tt))
