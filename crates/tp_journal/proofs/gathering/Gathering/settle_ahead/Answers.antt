use Rattle.std.proofs.Common.{ap, ◌∙◌}
use Rattle.tp_journal.specs.Gathering.{Gathered}
use Rattle.tp_journal.proofs.Roomy.{room_fails, settles_ahead}
use Rattle.tp_journal.proofs.Settling.{settles}
use Rattle.tp_journal.proofs.gathering.Gathering.settle_ahead.Goals as goal

pub returns-in_default : goal.returns-in_default
returns-in_default g c =
    let faults = g.D.Disk.fault_count in
    room_fails faults g.D.Disk.told c.args.self.now c.make_room.new.self c.make_room.ensures.stays c.faults-faults.result (c.faults-faults.ensures ∙ ap (λ (v : Gathered _). faults v.journal.disk) c.self.view_is)
    c.in_default.ensures.fails

pub returns : goal.returns
returns g c =
    let faults = g.D.Disk.fault_count in
    let told = g.D.Disk.told in
    let said = c.settle.ensures in
    settles_ahead faults told c.args.self.now c.make_room.new.self c.settle.new.self c.make_room.ensures.stays (c.in-Ok.ensures {u = tt}).ok c.settle.result
    (settles faults told c.make_room.new.self c.settle.new.self said.tells said.untold said.moments c.settle.result said.ok said.refused said.settled said.stands said.untouched said.last)
