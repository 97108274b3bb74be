use Rattle.tp_journal.proofs.Settling.{notes}
use Rattle.tp_journal.proofs.gathering.GatheringKeeper.force.Goals as goal

pub returns : goal.returns
returns g c = notes g.D.Disk.fault_count g.D.Disk.told c.args.self.now c.force.new.self c.args.rec.now c.force.result c.force.ensures.disk c.force.ensures.settled c.force.ensures.notes
