use Rattle.tp_world_members.proofs.Standing.{members_first_so}
use Rattle.tp_world_members.proofs.driven_world.DrivenWorld.new.Goals as goal

pub returns-clause-stands : goal.returns-clause-stands
returns-clause-stands g c =
    let is = c.in_ok-new.ensures {u = tt} in
    record { world = c.new.ensures; members = members_first_so c.args.members.items c.in_ok-new.field-0.slots.items c.in_ok-new.field-0.drivers.entries is.0 is.1 }
