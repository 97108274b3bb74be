use Rattle.std.proofs.Common.{Ok, Err, rules, ap, ◌∙◌}
use Rattle.tp_journal.specs.Gathering.{Gathered, gathered_standing}
use Rattle.tp_journal.specs.Settling.{HasAll, SettlesTo}
use Rattle.tp_journal.proofs.Roomy.{settles_last, trim_fails}
use Rattle.tp_journal.proofs.Settling.{settles}
use Rattle.tp_journal.proofs.gathering.Gathering.settle_last.Goals as goal

pub returns-in_err-settle : goal.returns-in_err-settle
returns-in_err-settle g c =
    let faults = g.D.Disk.fault_count in
    let told = g.D.Disk.told in
    let old = c.args.self.now in
    let new = c.settle.new.self in
    let said = c.in_err-settle.ensures in
    let answer : SettlesTo (gathered_standing faults told old) (Err c.in_err-settle.field-0.0) (gathered_standing faults told new) =
    settles faults told old new said.tells said.untold said.moments (Err c.in_err-settle.field-0.0) said.ok said.refused said.settled said.stands said.untouched said.last in
    search (rules, answer)

pub returns-in_default : goal.returns-in_default
returns-in_default g c =
    let faults = g.D.Disk.fault_count in
    let told = g.D.Disk.told in
    let old = c.args.self.now in
    let mid = c.settle.new.self in
    let said = c.in_ok-settle.ensures in
    let has : HasAll (gathered_standing faults told old) (gathered_standing faults told mid) = settles faults told old mid said.tells said.untold said.moments (Ok tt) said.ok said.refused said.settled said.stands said.untouched said.last in
    trim_fails faults told old mid c.trim.new.self has c.trim.ensures.stays c.faults-faults.result (c.faults-faults.ensures ∙ ap (λ (v : Gathered _). faults v.journal.disk) c.self.view_is) c.in_default.ensures.fails

pub returns : goal.returns
returns g c =
    let faults = g.D.Disk.fault_count in
    let told = g.D.Disk.told in
    let old = c.args.self.now in
    let mid = c.settle.new.self in
    let said = c.in_ok-settle.ensures in
    let has : HasAll (gathered_standing faults told old) (gathered_standing faults told mid) = settles faults told old mid said.tells said.untold said.moments (Ok tt) said.ok said.refused said.settled said.stands said.untouched said.last in
    settles_last faults told old mid c.trim.new.self has c.trim.ensures.stays (c.in-Ok.ensures {u = tt}).ok
