use Rattle.std.proofs.Common.{◌≤◌, length, sym, ◌∙◌, ap, arith}
use Rattle.tp_shared_log.specs.Locks.{StillTells, stood_as, IsKept}
use Rattle.tp_shared_log.proofs.Keeping.{kept_failed, kept_unmoved, tells_refused}
use Rattle.tp_shared_log.proofs.Telling.{settle_tells}
use Rattle.tp_shared_log.proofs.locked.Locked.settle_much.Goals as goal
use Rattle.tp_shared_log.proofs.locked.Locked.settle_much.Goals.{in-Ok, in-Err}

pub invariant_of-self-2 : goal.invariant_of-self-2
invariant_of-self-2 g c =
    let before = c.self.inside.journal in
    let after = c.settle.new.self in
    let n = g.D.Disk.fault_count before.journal.disk in
    let m = g.D.Disk.fault_count after.journal.disk in
    let told = g.D.Disk.told before.journal.disk in
    let told_now = g.D.Disk.told after.journal.disk in
    let log = stood_as g.L.Stood.stood g.L.Stood.faults g.L.Stood.wide g.L.Stood.shares g.L.Stood.story in
    let forced = c.self.inside.forced.total in
    let stakes = c.self.inside.stakes.total in
    let unfit = c.self.inside.unfit in
    let kept : IsKept log before n told forced stakes unfit = c.self.invariant in
    let says = c.settle.ensures in
    let within : before.settled ≤ length before.journal.list = omega (arith, says.grows, says.within, ap length says.tells.list) in
    let images : StillTells log.story (length log.stood) after.journal.wide after.journal.list told_now =
    settle_tells g.D.Disk.told (length log.stood) before after n m says.tells kept.settled within says.moments log.story c.settle.result says.ok says.refused says.untouched kept.images in
    elim c.match-settle.branch [
      | in-Ok w ↦ rw w.self-inside-is (kept_unmoved log before after n m told told_now forced stakes unfit kept images says.grows (tells_refused before.journal after.journal n m says.tells) (w.in-Ok.ensures.ok.1 ∙ sym w.in-Ok.ensures.ok.0))
      | in-Err w ↦ rw w.self-inside-is (kept_failed log before after n m told told_now forced stakes unfit kept images says.grows says.tells w.in-Err.fault w.in-Err.ensures.refused w.sub.new.self.total (omega (arith, w.sub.ensures.total)))
    ]
