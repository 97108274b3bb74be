use Rattle.tp_journal.specs.Keeping.{receipt_of}
use Rattle.tp_journal.proofs.Settling.{notes}
use Rattle.tp_journal.proofs.gathering.GatheringKeeper.append.Goals as goal

pub returns : goal.returns
returns g c = notes g.D.Disk.fault_count g.D.Disk.told c.args.self.now c.append.new.self c.args.rec.now (receipt_of c.args.rec.now c.append.result) c.append.ensures.disk c.append.ensures.settled c.append.ensures.notes
