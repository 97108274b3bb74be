use Rattle.std.proofs.Common.{◌≡◌, ◌≤◌, ◌<◌, ◌||◌, true, is_some, length, sym, ◌∙◌, ap, subst, arith}
use Rattle.tp_journal.specs.Journals.{Kept}
use Rattle.tp_journal.specs.Log.{most_bytes}
use Rattle.tp_journal.specs.Records.{placed}
use Rattle.tp_shared_log.specs.Locks.{Extends, HadNoRoom, ShutRose, StillTells, stood_as, IsKept}
use Rattle.tp_shared_log.proofs.Keeping.{kept_settled}
use Rattle.tp_shared_log.proofs.Telling.{leaves_then, settle_tells}
use Rattle.tp_shared_log.proofs.locked.Locked.close.Goals as goal

pub returns-clause-list : goal.returns-clause-list
returns-clause-list g c =
    let before = c.self.inside.journal in
    let after = c.settle-settled.new.self in
    let n = g.D.Disk.fault_count before.journal.disk in
    let m = g.D.Disk.fault_count after.journal.disk in
    let told = g.D.Disk.told before.journal.disk in
    let told_now = g.D.Disk.told after.journal.disk in
    let log = stood_as g.L.Stood.stood g.L.Stood.faults g.L.Stood.wide g.L.Stood.shares g.L.Stood.story in
    let forced = c.self.inside.forced.total in
    let stakes = c.self.inside.stakes.total in
    let unfit = c.self.inside.unfit in
    let kept : IsKept log before n told forced stakes unfit = c.self.invariant in
    let says = c.settle-settled.ensures in
    let within : before.settled ≤ length before.journal.list = omega (arith, says.grows, says.within, ap length says.tells.list) in
    let images : StillTells log.story (length log.stood) after.journal.wide after.journal.list told_now =
    settle_tells g.D.Disk.told (length log.stood) before after n m says.tells kept.settled within says.moments log.story c.settle-settled.result says.ok says.refused says.untouched kept.images in
    let settled = kept_settled log before after n m told told_now forced stakes unfit kept images says.grows says.tells c.settle-settled.result says.ok says.refused in
    subst (λ (v : Kept _). Extends log.stood c.args.all.amount (placed v.wide v.list)) (sym c.into_journal-journal.ensures)
    (subst (λ k. Extends log.stood k (placed after.journal.wide after.journal.list)) (sym (c.audit.ensures.whole c.requires.all)) settled.extends)

pub returns-clause-wide : goal.returns-clause-wide
returns-clause-wide g c =
    let before = c.self.inside.journal in
    let after = c.settle-settled.new.self in
    let n = g.D.Disk.fault_count before.journal.disk in
    let m = g.D.Disk.fault_count after.journal.disk in
    let told = g.D.Disk.told before.journal.disk in
    let told_now = g.D.Disk.told after.journal.disk in
    let log = stood_as g.L.Stood.stood g.L.Stood.faults g.L.Stood.wide g.L.Stood.shares g.L.Stood.story in
    let forced = c.self.inside.forced.total in
    let stakes = c.self.inside.stakes.total in
    let unfit = c.self.inside.unfit in
    let kept : IsKept log before n told forced stakes unfit = c.self.invariant in
    let says = c.settle-settled.ensures in
    let within : before.settled ≤ length before.journal.list = omega (arith, says.grows, says.within, ap length says.tells.list) in
    let images : StillTells log.story (length log.stood) after.journal.wide after.journal.list told_now =
    settle_tells g.D.Disk.told (length log.stood) before after n m says.tells kept.settled within says.moments log.story c.settle-settled.result says.ok says.refused says.untouched kept.images in
    let settled = kept_settled log before after n m told told_now forced stakes unfit kept images says.grows says.tells c.settle-settled.result says.ok says.refused in
    ap (λ (v : Kept _). v.wide) c.into_journal-journal.ensures ∙ settled.same_version

pub returns-clause-shut : goal.returns-clause-shut
returns-clause-shut g c =
    let before = c.self.inside.journal in
    let after = c.settle-settled.new.self in
    let n = g.D.Disk.fault_count before.journal.disk in
    let m = g.D.Disk.fault_count after.journal.disk in
    let told = g.D.Disk.told before.journal.disk in
    let told_now = g.D.Disk.told after.journal.disk in
    let log = stood_as g.L.Stood.stood g.L.Stood.faults g.L.Stood.wide g.L.Stood.shares g.L.Stood.story in
    let forced = c.self.inside.forced.total in
    let stakes = c.self.inside.stakes.total in
    let unfit = c.self.inside.unfit in
    let kept : IsKept log before n told forced stakes unfit = c.self.invariant in
    let says = c.settle-settled.ensures in
    let within : before.settled ≤ length before.journal.list = omega (arith, says.grows, says.within, ap length says.tells.list) in
    let images : StillTells log.story (length log.stood) after.journal.wide after.journal.list told_now =
    settle_tells g.D.Disk.told (length log.stood) before after n m says.tells kept.settled within says.moments log.story c.settle-settled.result says.ok says.refused says.untouched kept.images in
    let settled = kept_settled log before after n m told told_now forced stakes unfit kept images says.grows says.tells c.settle-settled.result says.ok says.refused in
    subst (λ (v : Kept _). ShutRose log.faults v.shut (g.D.Disk.fault_count v.disk)) (sym c.into_journal-journal.ensures) settled.shut

pub returns-clause-images : goal.returns-clause-images
returns-clause-images g c =
    let before = c.self.inside.journal in
    let after = c.settle-settled.new.self in
    let n = g.D.Disk.fault_count before.journal.disk in
    let m = g.D.Disk.fault_count after.journal.disk in
    let told = g.D.Disk.told before.journal.disk in
    let told_now = g.D.Disk.told after.journal.disk in
    let log = stood_as g.L.Stood.stood g.L.Stood.faults g.L.Stood.wide g.L.Stood.shares g.L.Stood.story in
    let forced = c.self.inside.forced.total in
    let stakes = c.self.inside.stakes.total in
    let unfit = c.self.inside.unfit in
    let kept : IsKept log before n told forced stakes unfit = c.self.invariant in
    let says = c.settle-settled.ensures in
    let within : before.settled ≤ length before.journal.list = omega (arith, says.grows, says.within, ap length says.tells.list) in
    let images : StillTells log.story (length log.stood) after.journal.wide after.journal.list told_now =
    settle_tells g.D.Disk.told (length log.stood) before after n m says.tells kept.settled within says.moments log.story c.settle-settled.result says.ok says.refused says.untouched kept.images in
    let settled = kept_settled log before after n m told told_now forced stakes unfit kept images says.grows says.tells c.settle-settled.result says.ok says.refused in
    leaves_then g.D.Disk.told log.story (length log.stood) c.into_journal-journal.result c.shut-shut.result
    (subst (λ (v : Kept _). StillTells log.story (length log.stood) v.wide v.list (g.D.Disk.told v.disk)) (sym c.into_journal-journal.ensures) images) c.shut-shut.ensures.is c.shut-shut.ensures.started

pub returns-clause-spent : goal.returns-clause-spent
returns-clause-spent g c =
    let before = c.self.inside.journal in
    let after = c.settle-settled.new.self in
    let n = g.D.Disk.fault_count before.journal.disk in
    let m = g.D.Disk.fault_count after.journal.disk in
    let told = g.D.Disk.told before.journal.disk in
    let told_now = g.D.Disk.told after.journal.disk in
    let log = stood_as g.L.Stood.stood g.L.Stood.faults g.L.Stood.wide g.L.Stood.shares g.L.Stood.story in
    let forced = c.self.inside.forced.total in
    let stakes = c.self.inside.stakes.total in
    let unfit = c.self.inside.unfit in
    let kept : IsKept log before n told forced stakes unfit = c.self.invariant in
    let says = c.settle-settled.ensures in
    let within : before.settled ≤ length before.journal.list = omega (arith, says.grows, says.within, ap length says.tells.list) in
    let images : StillTells log.story (length log.stood) after.journal.wide after.journal.list told_now =
    settle_tells g.D.Disk.told (length log.stood) before after n m says.tells kept.settled within says.moments log.story c.settle-settled.result says.ok says.refused says.untouched kept.images in
    let settled = kept_settled log before after n m told told_now forced stakes unfit kept images says.grows says.tells c.settle-settled.result says.ok says.refused in
    λ less. subst (λ (v : Kept _). (is_some v.shut || is_some unfit) ≡ true) (sym c.into_journal-journal.ensures) (settled.spent (omega (arith, less, c.audit-2.ensures.whole c.requires.stakes)))

pub returns-clause-unfit : goal.returns-clause-unfit
returns-clause-unfit g c =
    let before = c.self.inside.journal in
    let after = c.settle-settled.new.self in
    let n = g.D.Disk.fault_count before.journal.disk in
    let m = g.D.Disk.fault_count after.journal.disk in
    let told = g.D.Disk.told before.journal.disk in
    let told_now = g.D.Disk.told after.journal.disk in
    let log = stood_as g.L.Stood.stood g.L.Stood.faults g.L.Stood.wide g.L.Stood.shares g.L.Stood.story in
    let forced = c.self.inside.forced.total in
    let stakes = c.self.inside.stakes.total in
    let unfit = c.self.inside.unfit in
    let kept : IsKept log before n told forced stakes unfit = c.self.invariant in
    let says = c.settle-settled.ensures in
    let within : before.settled ≤ length before.journal.list = omega (arith, says.grows, says.within, ap length says.tells.list) in
    let images : StillTells log.story (length log.stood) after.journal.wide after.journal.list told_now =
    settle_tells g.D.Disk.told (length log.stood) before after n m says.tells kept.settled within says.moments log.story c.settle-settled.result says.ok says.refused says.untouched kept.images in
    let settled = kept_settled log before after n m told told_now forced stakes unfit kept images says.grows says.tells c.settle-settled.result says.ok says.refused in
    subst (λ (v : Kept _). HadNoRoom v.gate unfit) (sym c.into_journal-journal.ensures) settled.no_room

pub returns-clause-room : goal.returns-clause-room
returns-clause-room g c =
    let before = c.self.inside.journal in
    let after = c.settle-settled.new.self in
    let n = g.D.Disk.fault_count before.journal.disk in
    let m = g.D.Disk.fault_count after.journal.disk in
    let told = g.D.Disk.told before.journal.disk in
    let told_now = g.D.Disk.told after.journal.disk in
    let log = stood_as g.L.Stood.stood g.L.Stood.faults g.L.Stood.wide g.L.Stood.shares g.L.Stood.story in
    let forced = c.self.inside.forced.total in
    let stakes = c.self.inside.stakes.total in
    let unfit = c.self.inside.unfit in
    let kept : IsKept log before n told forced stakes unfit = c.self.invariant in
    let says = c.settle-settled.ensures in
    let within : before.settled ≤ length before.journal.list = omega (arith, says.grows, says.within, ap length says.tells.list) in
    let images : StillTells log.story (length log.stood) after.journal.wide after.journal.list told_now =
    settle_tells g.D.Disk.told (length log.stood) before after n m says.tells kept.settled within says.moments log.story c.settle-settled.result says.ok says.refused says.untouched kept.images in
    let settled = kept_settled log before after n m told told_now forced stakes unfit kept images says.grows says.tells c.settle-settled.result says.ok says.refused in
    λ some. subst (λ (v : Kept _). v.gate < most_bytes) (sym c.into_journal-journal.ensures) (settled.fits (omega (arith, some, c.audit.ensures.whole c.requires.all)))
