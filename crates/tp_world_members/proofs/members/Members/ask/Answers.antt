use Rattle.std.proofs.Common.{sym, ◌∙◌}
use Rattle.tp_world_members.specs.Members.{driver_in}
use Rattle.tp_world_members.proofs.Asking.{asks_for, driver_there}
use Rattle.tp_world_members.proofs.members.Members.ask.Goals as goal

pub returns-in-Some-2-clause-asks : goal.returns-in-Some-2-clause-asks
returns-in-Some-2-clause-asks g c =
    let xs = c.args.self.now.slots.items in
    let es = c.args.self.now.drivers.entries in
    let drives = sym c.driver.ensures ∙ c.in-Some.is in
    asks_for _ xs c.put.new.self.slots.items (driver_in xs es) c.args.line.now c.in-Tell.node c.in-Some.member c.in-Tell.indication c.in-Some-2.request c.in-Tell.is drives c.in_ok-put.field-0 c.in-Some-2.is
    (c.in_ok-put.ensures.gave (driver_there xs es c.in-Tell.node c.in-Some.member drives))
