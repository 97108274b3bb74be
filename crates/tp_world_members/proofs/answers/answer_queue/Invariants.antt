use Rattle.std.proofs.Common.{◌≤◌}
use Rattle.tp_model.specs.World.{World as WorldValue}
use Rattle.tp_members.specs.Expansion.{memberless}
use Rattle.tp_world.specs.World.{Stands as WorldStands}
use Rattle.tp_world_members.specs.Standing.{MembersStand}
use Rattle.tp_world_members.specs.Running.{RunsOn}
use Rattle.tp_world_members.proofs.answers.answer_queue.Given as goal

abbrev pub invariant-loop-before : goal.invariant-loop-before
invariant-loop-before g l =
    (w : WorldValue)
    → WorldStands (memberless w) l.fn.world
    → MembersStand w l.fn.members.slots.items l.fn.members.drivers.entries
    → (l.before ≤ 4096)
    × RunsOn g.M.Member.allowed 0 w l.fn.from l.fn.lines l.before l.from l.lines l.world l.fn.members.slots.items l.members.slots.items l.members.drivers.entries
