use Rattle.std.proofs.Common.{ap, sym, ◌∙◌, subst, Option}
use Rattle.tp_world.specs.Stops.{HasPlayed}
use Rattle.tp_world_sites.specs.Slots.{entry_told}
use Rattle.tp_world_sites.specs.NodeAnswers.{answer_told}
use Rattle.tp_world_sites.specs.declared.site_slot.Entry.{Entry}
use Rattle.tp_world.proofs.StopCases.{entry_none, entry_forced, entry_plain}
use Rattle.tp_world.proofs.world.World.stop_in_entry.Goals as goal

pub returns-in-Refused : goal.returns-in-Refused
returns-in-Refused c = λ w s z n ent x h number disk.
    let v = c.args.self.now in
    let stop = c.args.stop.now in
    entry_none w s z n ent x c.args.place stop.call stop.fill v c.stop_with_none.new.self c.stop_with_none.result c.args.lines.now c.stop_with_none.new.lines (subst (λ (o : Option Entry). HasPlayed w s z n ent x c.args.place o v) (ap (λ a. entry_told (answer_told a c.args.entry.now)) c.in-Refused.is) h)
    (λ tells starts at mirrors. c.stop_with_none.ensures w s tells starts at mirrors)

pub returns-then-is_some : goal.returns-then-is_some
returns-then-is_some c = λ w s z n ent x h number disk.
    let v = c.args.self.now in
    let stop = c.args.stop.now in
    entry_forced w s z n ent x c.args.place stop.call stop.fill c.args.entry.now v c.stop_in_force.new.self c.stop_in_force.result c.args.lines.now c.stop_in_force.new.lines (subst (λ (o : Option Entry). HasPlayed w s z n ent x c.args.place o v) (ap (λ a. entry_told (answer_told a c.args.entry.now)) c.in-Happened.is) h)
    (sym c.is_some.ensures ∙ c.if-is_some.true)
    (λ e r played logs. c.stop_in_force.ensures w s z n e r x (c.args.entry.now).outs played logs number disk)

pub returns : goal.returns
returns c = λ w s z n ent x h number disk.
    let v = c.args.self.now in
    let stop = c.args.stop.now in
    entry_plain w s z n ent x c.args.place stop.call stop.fill c.args.node c.args.entry.now v c.enter.new.self c.stop_with_none-2.new.self c.stop_with_none-2.result c.args.lines.now c.stop_with_none-2.new.lines
    (subst (λ (o : Option Entry). HasPlayed w s z n ent x c.args.place o v) (ap (λ a. entry_told (answer_told a c.args.entry.now)) c.in-Happened.is) h) (sym c.is_some.ensures ∙ c.if-is_some.false) number (c.in_ok-enter.ensures {u = tt})
    (λ u tells starts at mirrors. c.stop_with_none-2.ensures u s tells starts at mirrors)
