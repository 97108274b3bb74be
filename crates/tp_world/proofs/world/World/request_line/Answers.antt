use Rattle.std.proofs.Common.{◌≡◌, true, refl, arith}
use Rattle.tp_model.specs.declared.line.Action.{Action}
use Rattle.tp_model.specs.Lines.{is_named}
use Rattle.tp_world.proofs.Resolved.{gives_action}
use Rattle.tp_world.proofs.world.World.request_line.Goals as goal

pub returns : goal.returns
returns c = λ w h.
    let a : Action = Action.Do c.args.node c.args.request.now in
    let named : is_named w a ≡ true = grind (arith, c.is_named.ensures w h) in
    gives_action w a c.args.lines.now c.ask.new.lines c.ask.result c.ask.new.self named refl refl (c.ask.ensures w h)
