use Rattle.std.proofs.Common.{true}
use Rattle.tp_log_tools.proofs.Shortened.{brief_widened, migrates_so, migrate_stops, holds_either, short_leaves}
use Rattle.tp_log_tools.proofs.migrating.migrate.Goals as goal
use Rattle.tp_log_tools.proofs.migrating.migrate.Goals.{in-Ok-migrate, in-Err-migrate}

pub returns-in-Err-clause-moments : goal.returns-in-Err-clause-moments
returns-in-Err-clause-moments g c s rs is small log = holds_either rs s _ ((c.in-Err.ensures {u = tt}).left s rs is small log)

pub returns-clause-migrates : goal.returns-clause-migrates
returns-clause-migrates g c =
    let told = g.D.Disk.told in
    let j = c.in-Ok.journal in
    let log_open = c.in-Ok.ensures {u = tt} in
    elim c.match-migrate.branch [
      | in-Ok-migrate w ↦ rw w.migrated-is (λ s is file.
          rw c.disk.ensures (migrates_so j.wide j.list log_open.texts _ (told j.disk) (log_open.opens s is file) (told c.migrate.new.self.disk) (w.in-Ok-migrate.ensures {u = tt}).room (λ t was. (w.in-Ok-migrate.ensures {u = tt}).bytes t was)))
      | in-Err-migrate w ↦ rw w.migrated-is tt
    ]

pub returns-clause-stopped : goal.returns-clause-stopped
returns-clause-stopped g c =
    let told = g.D.Disk.told in
    let j = c.in-Ok.journal in
    let log_open = c.in-Ok.ensures {u = tt} in
    elim c.match-migrate.branch [
      | in-Ok-migrate w ↦ rw w.migrated-is tt
      | in-Err-migrate w ↦ rw w.migrated-is (λ s is file.
          rw (c.disk.ensures, w.stop_of.ensures) (migrate_stops told _ j c.migrate.new.self _ _ log_open.texts (log_open.opens s is file) w.in-Err-migrate.fault (w.in-Err-migrate.ensures {u = tt}).refused (w.in-Err-migrate.ensures {u = tt}).untouched))
    ]

pub returns-clause-moments : goal.returns-clause-moments
returns-clause-moments g c s rs is small log =
    let told = g.D.Disk.told in
    let j = c.in-Ok.journal in
    let log_open = c.in-Ok.ensures {u = tt} in
    rw c.disk.ensures (short_leaves s rs j.list j.wide true (told j.disk) (told c.migrate.new.self.disk) log_open.texts (brief_widened j.wide j.list log_open.texts) (log_open.moments s rs is small log) (λ t was. c.migrate.ensures.moments log_open.unshut t was))
