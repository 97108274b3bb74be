use Rattle.std.proofs.Common.{◌∙◌, sym, ap}
use Rattle.tp_world.specs.Declares.{superior_at}
use Rattle.tp_world.proofs.Coming.{superior_stood}
use Rattle.tp_world.proofs.world.World.superior_at.Goals as goal

pub returns-in-Some : goal.returns-in-Some
returns-in-Some c = λ w h. c.addr.ensures ∙ superior_stood w c.args.self.now c.in-Some.under h ∙ ap (superior_at w) (sym c.in-Some.is)
