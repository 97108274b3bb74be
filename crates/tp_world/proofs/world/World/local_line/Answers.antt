use Rattle.std.proofs.Common.{◌≡◌, true, arith}
use Rattle.tp_model.specs.World.{is_node}
use Rattle.tp_world.proofs.Resolved.{gives_named}
use Rattle.tp_world.proofs.world.World.local_line.Goals as goal

pub returns : goal.returns
returns c = λ w h under.
    let named : is_node w c.args.node ≡ true = grind (arith, c.is_node.ensures w h) in
    gives_named (is_node w c.args.node) _ c.args.lines.now c.local.new.lines c.local.result c.local.new.self named (c.local.ensures w h under)
