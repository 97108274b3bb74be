use Rattle.std.proofs.Common.{refl, None}
use Rattle.tp_world_members.proofs.Answered.{out}
use Rattle.tp_world_members.proofs.Asking.{none_asked}
use Rattle.tp_world_members.proofs.answers.answer_all.Goals as goal

pub returns-then-drive_none : goal.returns-then-drive_none
returns-then-drive_none g c = λ w stands members.
    let xs = c.args.members.now.slots.items in
    let es = c.args.members.now.drivers.entries in
    let ls = c.args.lines.now in
    out _ 0 w c.args.from ls c.args.world.now xs xs es es (record { world = stands; members = members }) (record { count = refl; there = λ _. refl }) refl ls None ls refl refl refl
    (none_asked _ xs es ls c.args.from (c.drive_none.ensures c.if-drive_none.true))
