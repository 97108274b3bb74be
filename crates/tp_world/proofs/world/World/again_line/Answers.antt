use Rattle.std.proofs.Common.{◌≡◌, true, refl, arith}
use Rattle.tp_model.specs.declared.line.Action.{Action}
use Rattle.tp_model.specs.Lines.{is_named}
use Rattle.tp_world.proofs.Resolved.{gives_action}
use Rattle.tp_world.proofs.world.World.again_line.Goals as goal

pub returns : goal.returns
returns c = λ w h.
    let a : Action = Action.Again c.args.frame in
    let named : is_named w a ≡ true = grind (arith, c.is_frame.ensures w h) in
    gives_action w a c.args.lines.now c.deliver.new.lines c.deliver.result c.deliver.new.self named refl refl (c.deliver.ensures w h)
