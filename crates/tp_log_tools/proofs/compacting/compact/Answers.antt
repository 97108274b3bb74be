use Rattle.tp_log_tools.proofs.Shortened.{brief_texts, compacts_so, holds_either, short_leaves}
use Rattle.tp_log_tools.proofs.compacting.compact.Goals as goal
use Rattle.tp_log_tools.proofs.compacting.compact.Goals.{in-Ok-compact, in-Err-compact}

pub returns-in-Err-clause-moments : goal.returns-in-Err-clause-moments
returns-in-Err-clause-moments g c s rs is small log = holds_either rs s _ ((c.in-Err.ensures {u = tt}).left s rs is small log)

pub returns-clause-compacts : goal.returns-clause-compacts
returns-clause-compacts g c =
    let told = g.D.Disk.told in
    let j = c.in-Ok.journal in
    let log_open = c.in-Ok.ensures {u = tt} in
    elim c.match-compact.branch [
      | in-Ok-compact w ↦ rw w.compacted-is (λ s is file.
          rw c.disk.ensures (compacts_so j.wide j.list log_open.texts _ (told j.disk) (log_open.opens s is file) (told c.compact.new.self.disk) (λ t was. (w.in-Ok-compact.ensures {u = tt}).bytes t was)))
      | in-Err-compact w ↦ rw w.compacted-is tt
    ]

pub returns-clause-moments : goal.returns-clause-moments
returns-clause-moments g c s rs is small log =
    let told = g.D.Disk.told in
    let j = c.in-Ok.journal in
    let log_open = c.in-Ok.ensures {u = tt} in
    rw c.disk.ensures (short_leaves s rs j.list j.wide j.wide (told j.disk) (told c.compact.new.self.disk) log_open.texts (brief_texts j.wide j.list log_open.texts) (log_open.moments s rs is small log) (λ t was. c.compact.ensures.moments log_open.unshut t was))
