use Rattle.tp_world_members.proofs.DrivenLines.{closes_so}
use Rattle.tp_world_members.proofs.driven_world.DrivenWorld.closing.Goals as goal

pub returns : goal.returns
returns g c = closes_so c.args.self.now c.closing.result c.closing.ensures
