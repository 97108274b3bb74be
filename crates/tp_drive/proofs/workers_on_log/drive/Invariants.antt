use Rattle.tp_journal.specs.Records.{placed}
use Rattle.tp_drive.proofs.Booting.{front_of}
use Rattle.tp_drive.proofs.workers_on_log.drive.Given as goal

abbrev pub ghosts-on_log-L-Stood : goal.ghosts-on_log-L-Stood
ghosts-on_log-L-Stood g a = record {
  stood = placed a.journal.wide a.journal.list;
  faults = g.D.Disk.fault_count a.journal.disk;
  wide = a.journal.wide;
  shares = a.count;
  story = g.D.Disk.told a.journal.disk;
}

abbrev pub ghosts-on_log-L-Ledger : goal.ghosts-on_log-L-Ledger
ghosts-on_log-L-Ledger g a = record { name = a.first.name; parts = a.first.parts }

abbrev pub ghosts-on_log-M-Ledger : goal.ghosts-on_log-M-Ledger
ghosts-on_log-M-Ledger g a = record { name = a.second.name; parts = a.second.parts }

abbrev pub ghosts-on_log-L-Begun : goal.ghosts-on_log-L-Begun
ghosts-on_log-L-Begun g a = record { opening = front_of a.journal a.name }
