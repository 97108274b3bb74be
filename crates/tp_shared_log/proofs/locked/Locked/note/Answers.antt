use Rattle.std.proofs.Common.{◌≡◌, ◌≤◌, Result, Err, None, length, sym, ◌∙◌, ap, subst, arith}
use Rattle.tp_journal.specs.declared.faults.ForceFault.{ForceFault}
use Rattle.tp_journal.specs.declared.receipts.Receipt.{Receipt}
use Rattle.tp_journal.specs.Journals.{standing_of}
use Rattle.tp_journal.specs.Keeping.{Forces}
use Rattle.tp_journal.specs.Records.{text}
use Rattle.tp_shared_log.specs.Locks.{StillTells, stood_as, IsKept}
use Rattle.tp_shared_log.specs.Unfits.{first_of}
use Rattle.tp_shared_log.proofs.Keeping.{same_refused, rose_now, still_rose, kept_stored, kept_unmoved, kept_shut, kept_full}
use Rattle.tp_shared_log.proofs.Telling.{noted_tells}
use Rattle.tp_shared_log.proofs.locked.Locked.note.Goals as goal
use Rattle.tp_shared_log.proofs.locked.Locked.note.Goals.{in-Ok, in-Err-NoMemory, in-Err-Full+in_ok-unfit-in-Err-Full, in-Err-DiskFault, in-Err-Shut}

pub invariant_of-self : goal.invariant_of-self
invariant_of-self g c =
    let before = c.self.inside.journal in
    let after = c.force.new.self in
    let n = g.D.Disk.fault_count before.journal.disk in
    let m = g.D.Disk.fault_count after.journal.disk in
    let told = g.D.Disk.told before.journal.disk in
    let told_now = g.D.Disk.told after.journal.disk in
    let log = stood_as g.L.Stood.stood g.L.Stood.faults g.L.Stood.wide g.L.Stood.shares g.L.Stood.story in
    let forced = c.self.inside.forced.total in
    let stakes = c.self.inside.stakes.total in
    let unfit = c.self.inside.unfit in
    let kept : IsKept log before n told forced stakes unfit = c.self.invariant in
    let images : StillTells log.story (length log.stood) after.journal.wide after.journal.list told_now =
    noted_tells g.D.Disk.told log.story (length log.stood) before.journal after.journal n m c.args.rec.now c.force.result kept.images c.force.ensures.notes c.force.ensures.disk in
    let settled : before.settled ≤ after.settled = omega (arith, c.force.ensures.settled) in
    let forces : (r : Result Receipt ForceFault) → c.force.result ≡ r → Forces (standing_of before.journal n None None) c.args.rec.now r (standing_of after.journal m None None) =
    λ r is. subst (λ q. Forces (standing_of before.journal n None None) c.args.rec.now q (standing_of after.journal m None None)) is c.force.ensures.notes in
    let f = forces (Err (ForceFault.Full c.in-Err-Full.size)) (c.in-Err-Full.is ∙ ap Err c.in-Err-Full.field-0-is) in
    kept_unmoved log before after n m told told_now forced stakes unfit kept images settled f.0 (f.3 ∙ sym f.2)

pub invariant_of-self-2 : goal.invariant_of-self-2
invariant_of-self-2 g c =
    let before = c.self.inside.journal in
    let after = c.force.new.self in
    let n = g.D.Disk.fault_count before.journal.disk in
    let m = g.D.Disk.fault_count after.journal.disk in
    let told = g.D.Disk.told before.journal.disk in
    let told_now = g.D.Disk.told after.journal.disk in
    let log = stood_as g.L.Stood.stood g.L.Stood.faults g.L.Stood.wide g.L.Stood.shares g.L.Stood.story in
    let forced = c.self.inside.forced.total in
    let stakes = c.self.inside.stakes.total in
    let unfit = c.self.inside.unfit in
    let kept : IsKept log before n told forced stakes unfit = c.self.invariant in
    let images : StillTells log.story (length log.stood) after.journal.wide after.journal.list told_now =
    noted_tells g.D.Disk.told log.story (length log.stood) before.journal after.journal n m c.args.rec.now c.force.result kept.images c.force.ensures.notes c.force.ensures.disk in
    let settled : before.settled ≤ after.settled = omega (arith, c.force.ensures.settled) in
    let forces : (r : Result Receipt ForceFault) → c.force.result ≡ r → Forces (standing_of before.journal n None None) c.args.rec.now r (standing_of after.journal m None None) =
    λ r is. subst (λ q. Forces (standing_of before.journal n None None) c.args.rec.now q (standing_of after.journal m None None)) is c.force.ensures.notes in
    elim c.match-force.branch [
      | in-Ok w ↦ let f = w.in-Ok.ensures.notes in rw (w.self-inside-is, w.add.ensures.total) (kept_stored log before after n m told told_now forced stakes unfit kept images settled c.args.rec.now w.in-Ok.receipt f)
      | in-Err-NoMemory w ↦
          let f = forces (Err ForceFault.NoMemory) (w.in-Err-NoMemory.is ∙ ap Err w.in-Err-NoMemory.field-0-is) in
          rw w.self-inside-is (kept_unmoved log before after n m told told_now forced stakes unfit kept images settled (same_refused before.journal after.journal n m f) (ap (λ s. s.shut) f))
      | in-Err-Full+in_ok-unfit-in-Err-Full w ↦
          let size = w.in-Err-Full.size in
          let f = forces (Err (ForceFault.Full size)) (w.in-Err-Full.is ∙ ap Err w.in-Err-Full.field-0-is) in
          let version : w.wide.result ≡ before.journal.wide = w.wide.ensures ∙ f.0.wide in
          let is : w.in_ok-unfit-in-Err-Full.field-0 ≡ first_of unfit size (length (text before.journal.wide c.args.rec.now)) = (w.in_ok-unfit-in-Err-Full.ensures {u = tt}) ∙ cc (version, w.in-Err-Full.size-is) in
          rw (w.self-inside-is, is) (kept_full log before after n m told told_now forced stakes unfit kept images settled f.0 w.sub.new.self.total size (length (text before.journal.wide c.args.rec.now)) (omega (arith, w.sub.ensures.total)) (f.3 ∙ sym f.2) f.1.1 (omega (arith, f.1.0)))
      | in-Err-DiskFault w ↦
          let faults = w.in-Err-DiskFault.faults in
          let f = forces (Err (ForceFault.DiskFault faults)) (w.in-Err-DiskFault.is ∙ ap Err w.in-Err-DiskFault.field-0-is) in
          rw w.self-inside-is (kept_shut log before after n m told told_now forced stakes unfit kept images settled f.0 w.sub-in-Err-DiskFault.new.self.total faults (omega (arith, w.sub-in-Err-DiskFault.ensures.total)) f.3 (rose_now log.faults n m faults before.journal.shut after.journal.shut f.2 f.3 kept.shut f.1))
      | in-Err-Shut w ↦
          let f = forces (Err (ForceFault.Shut w.in-Err-Shut.faults)) (w.in-Err-Shut.is ∙ ap Err w.in-Err-Shut.field-0-is) in
          rw w.self-inside-is (kept_shut log before after n m told told_now forced stakes unfit kept images settled f.0 w.sub-in-Err-Shut.new.self.total w.in-Err-Shut.faults (omega (arith, w.sub-in-Err-Shut.ensures.total)) f.2 (still_rose log before after n m told told_now forced stakes unfit kept images settled f.0 (f.2 ∙ sym f.1)))
    ]
