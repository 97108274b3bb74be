use Rattle.tp_members.specs.Expansion.{memberless}
use Rattle.tp_world_members.proofs.driven_world.DrivenWorld.frames_sent.Goals as goal

pub returns : goal.returns
returns g c = λ w stands. c.frames_sent.ensures (memberless w) stands.world
