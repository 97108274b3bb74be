use Rattle.std.proofs.Common.{◌≡◌}
use Rattle.tp_world_members.specs.Members.{AreSame, driver_in}
use Rattle.tp_world_members.proofs.Asking.{Passed}
use Rattle.tp_world_members.proofs.members.next_request.Given as goal

abbrev pub invariant-loop-place : goal.invariant-loop-place
invariant-loop-place g l =
    AreSame l.fn.members.slots.items l.members.slots.items
    × (l.members.drivers ≡ l.fn.members.drivers)
    × Passed g.M.Member.allowed l.fn.members.slots.items l.members.slots.items (driver_in l.fn.members.slots.items l.fn.members.drivers.entries) l.fn.lines l.fn.from l.place
