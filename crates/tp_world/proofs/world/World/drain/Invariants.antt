use Rattle.tp_model.specs.World.{World}
use Rattle.tp_world.specs.Drains.{IsDrainedSoFar}
use Rattle.tp_world.specs.World.{Mirrors}
use Rattle.tp_world.proofs.world.World.drain.Given as goal

abbrev pub invariant-loop-turn : goal.invariant-loop-turn
invariant-loop-turn l = (w : World) → Mirrors w l.fn.self → IsDrainedSoFar w l.most l._turn l.fn.lines l.lines l.self
